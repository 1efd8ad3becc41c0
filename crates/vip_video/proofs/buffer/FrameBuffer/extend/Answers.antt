use Rattle.std.proofs.Common.{◌≡◌, ◌<◌, ◌+◌, ◌++◌, List, ℕ, [], ◌∙◌, sym, ap, length, length-append, length-set, get_or, set, take, arith}
use Rattle.std.proofs.lemmas.List.{length-take-le}
use Rattle.machine.specs.Pictures.{filled}
use Rattle.vip_video.specs.Lines.{so_far}
use Rattle.vip_video.proofs.Lines.{FilledAt, filled-at, so_far-at, so_far-set, AreFilled-set, eight, taken-filled}
use Rattle.vip_video.proofs.buffer.FrameBuffer.extend.Goals as goal
use Rattle.vip_video.proofs.buffer.FrameBuffer.extend.Goals.{After-self}

same : (c : After-self) → length c.self.inside.picture.lines ≡ length c.self.inside.lengths
same c = c.self.invariant.lines ∙ sym c.self.invariant.lengths

-- the bytes of a line so far
record Begun (ls : List (List ℕ)) (ns : List ℕ) (line : ℕ) (first : List ℕ) : Type 0 where
  size : length first ≡ get_or ns line 0
  is : get_or ls line [] ≡ filled first

begun : (c : After-self) → Begun c.self.inside.picture.lines c.self.inside.lengths c.args.line (get_or c.args.self.now c.args.line [])
begun c =
    let ls = c.self.inside.picture.lines in
    let ns = c.self.inside.lengths in
    let n = get_or ns c.args.line 0 in
    let l = get_or ls c.args.line [] in
    let within : c.args.line < length ls = omega (arith, c.self.invariant.lines, c.requires.line) in
    let f : FilledAt l n = filled-at ls ns c.self.invariant.filled (same c) c.args.line within in
    let e : take n l ≡ get_or c.args.self.now c.args.line [] =
    sym (so_far-at ls ns (same c) c.args.line within) ∙ ap (λ v. get_or v c.args.line []) c.self.view_is in
    let size : length (take n l) ≡ n = length-take-le n l (omega (arith, f.most, eight l n f)) in
    record { size = ap length (sym e) ∙ size; is = f.is ∙ ap filled e }

pub write-requires-clause-room : goal.write-requires-clause-room
write-requires-clause-room c = let b = begun (goal.at.write-requires-clause-room c).After-self in omega (arith, b.size, c.requires.room)

pub overflow_add-self : goal.overflow_add-self
overflow_add-self c = let b = begun (goal.at.overflow_add-self c).After-self in omega (arith, b.size, c.requires.room)

pub invariant_of-self : goal.invariant_of-self
invariant_of-self c =
    let ls = c.self.inside.picture.lines in
    let ns = c.self.inside.lengths in
    let first : List ℕ = get_or c.args.self.now c.args.line [] in
    let bytes : List ℕ = c.args.bytes.now in
    let n = get_or ns c.args.line 0 + length bytes in
    let b = begun (goal.at.invariant_of-self c).After-self in
    let taken : take n (filled (first ++ bytes)) ≡ first ++ bytes = taken-filled (first ++ bytes) n (omega (arith, length-append first bytes, b.size)) in
    rw (c.write.ensures first b.size b.is)
    (record {
      lines = length-set _ _ _ ∙ c.self.invariant.lines;
      lengths = length-set _ _ _ ∙ c.self.invariant.lengths;
      filled =
          AreFilled-set ls ns c.self.invariant.filled c.args.line (filled (first ++ bytes)) n (omega (arith, b.size, c.requires.room))
          (ap filled (sym taken));
    })

pub returns : goal.returns
returns c =
    let ls = c.self.inside.picture.lines in
    let ns = c.self.inside.lengths in
    let first : List ℕ = get_or c.args.self.now c.args.line [] in
    let bytes : List ℕ = c.args.bytes.now in
    let n = get_or ns c.args.line 0 + length bytes in
    let b = begun (goal.at.returns c).After-self in
    let taken : take n (filled (first ++ bytes)) ≡ first ++ bytes = taken-filled (first ++ bytes) n (omega (arith, length-append first bytes, b.size)) in
    ap (λ (x : List (List ℕ)). so_far x (set ns c.args.line n)) (c.write.ensures first b.size b.is)
    ∙ so_far-set ls ns (same (goal.at.returns c).After-self) c.args.line (filled (first ++ bytes)) n
    ∙ ap (set (so_far ls ns) c.args.line) taken
    ∙ ap (λ v. set v c.args.line (first ++ bytes)) c.self.view_is
