use Rattle.std.proofs.Common.{◌≡◌, ◌+◌, ◌-◌, ◌<◌, ◌≤◌, ◌%◌, ◌∙◌, ℕ, zero, suc, List, [], Bool, true, false, length, get_or, ap, arith, subst, subst₂, sym}
use Rattle.std.specs.Prelude.{◌==◌}
use Rattle.machine.specs.Signals.{line_cycles, window_line, line_of, dma_at}
use Rattle.vip_video.specs.Chip.{Chip, with_bytes, ended_with}
use Rattle.vip_video.specs.Place.{frame_place}
use Rattle.vip_video.specs.declared.place.Place.{Place}
use Rattle.vip_video.proofs.Quiet.{chip}
use Rattle.vip_video.proofs.Scan.{IsScan, scan-place, dma-on, scanned, place-scanned, room-scanned}
use Rattle.vip_video.proofs.video.Video.scan.Goals as goal
use Rattle.vip_video.proofs.video.Video.scan.Goals.{After-self, After-add_all}

-- what is known where there are bytes, said of the fields
record Begun (t n : ℕ) (place : Place) (on cycle_on : Bool) : Type 0 where
  dma : (k : ℕ) → k < n → dma_at (t + k) true ≡ true
  is_on : on ≡ true
  is_shown : cycle_on ≡ true
  scan : IsScan t n
  here : place ≡ frame_place t

some : (n : ℕ) → false ≡ (n == 0) → 0 < n
some zero h = cc
some (suc n) h = omega arith

both : (x : Bool) → x ≡ true → x ≡ false → ⊥
both x t f = cc

begun : (c : After-self) → Begun c.self.inside.cycles (length c.args.bytes.now) c.self.inside.place c.self.inside.on c.self.inside.cycle_on
begun c =
    let inner = c.self.inside in
    let t = inner.cycles in
    let n = length c.args.bytes.now in
    let dma : (k : ℕ) → k < n → dma_at (t + k) inner.on ≡ true =
    λ k l. subst (λ (v : Chip). dma_at (v.cycles + k) v.on ≡ true) (sym c.self.view_is) (c.requires.wanted k l) in
    let more : 0 < n = some n c.if-is_empty.ensures in
    let scan : IsScan t n = scan-place t n inner.on more dma in
    let here : dma_at t inner.on ≡ true = subst (λ u. dma_at u inner.on ≡ true) (omega arith) (dma 0 more) in
    let busy : t < inner.quiet_to → ⊥ = λ l. both _ here (c.self.invariant.quiet t (omega arith) l).dma in
    let settled : inner.quiet_to ≡ t = omega (arith, c.self.invariant.ahead, busy) in
    let is_on : inner.on ≡ true = dma-on t inner.on here in
    record {
      dma = λ k l. subst (λ x. dma_at (t + k) x ≡ true) is_on (dma k l);
      is_on = is_on;
      is_shown = ap (λ (v : Chip). v.cycle_on) c.self.view_is ∙ c.requires.shown;
      scan = scan;
      here = c.self.invariant.place ∙ ap frame_place settled;
    }

pub add_all-requires-clause-room : goal.add_all-requires-clause-room
add_all-requires-clause-room c =
    let b = begun (goal.at.add_all-requires-clause-room c).After-self in
    let t = c.self.inside.cycles in
    let lines = c.self.inside.raster.lines in
    let Fits : Place → Type 0 = λ p. length (get_or lines (p.line - window_line) []) + length c.args.bytes.now ≤ 8 in
    let room : length (get_or lines (line_of t - window_line) []) ≤ t % line_cycles - 2 =
    c.self.invariant.room.present (line_of t - window_line) (omega (arith, b.scan.place.from)) in
    subst Fits (sym b.here) (omega (arith, room, b.scan.most, b.scan.place.column))

pub overflow_cast-self : goal.overflow_cast-self
overflow_cast-self c = let b = begun (goal.at.overflow_cast-self c).After-self in omega (arith, b.scan.most)

pub overflow_add-self-2 : goal.overflow_add-self-2
overflow_add-self-2 c =
    let b = begun (goal.at.overflow_add-self-2 c).After-self in
    let column : c.self.inside.place.column ≡ c.self.inside.cycles % line_cycles = ap (λ (p : Place). p.column) b.here in
    omega (arith, b.scan.most, column)

-- the pictures that are left
drawn : (c : After-add_all) → Begun c.self.inside.cycles (length c.args.bytes.now) c.self.inside.place c.self.inside.on c.self.inside.cycle_on
    → c.add_all.new.self ≡ record c.self.inside.raster {
      lines =
          with_bytes (line_of c.self.inside.cycles - window_line) c.args.bytes.now c.self.inside.raster.lines;
    }
drawn c b =
    c.add_all.ensures
    ∙ ap (λ (p : Place). record c.self.inside.raster { lines = with_bytes (p.line - window_line) c.args.bytes.now c.self.inside.raster.lines }) b.here

pub invariant_of-self : goal.invariant_of-self
invariant_of-self c =
    let inner = c.self.inside in
    let t = inner.cycles in
    let n = length c.args.bytes.now in
    let b = begun (goal.at.invariant_of-self c).After-self in
    let moved : Place → Place = λ (p : Place). record p { column = p.column + n } in
    rw (drawn (goal.at.invariant_of-self c).After-add_all b)
    (record {
      ahead = omega arith;
      place = ap moved b.here ∙ place-scanned t n b.scan;
      quiet = λ u from to. absurd (omega (arith, from, to));
      count = omega (arith, c.self.invariant.count);
      room = room-scanned t c.args.bytes.now inner.raster.lines b.scan c.self.invariant.room;
    })

pub returns : goal.returns
returns c =
    let inner = c.self.inside in
    let t = inner.cycles in
    let bytes : List ℕ = c.args.bytes.now in
    let b = begun (goal.at.returns c).After-self in
    ap (chip (t + length bytes) inner.on inner.cycle_on) (drawn (goal.at.returns c).After-add_all b)
    ∙ subst₂ (λ x y. chip (t + length bytes) x y (record inner.raster { lines = with_bytes (line_of t - window_line) bytes inner.raster.lines })
    ≡ ended_with bytes (chip t x y inner.raster))
    (sym b.is_on) (sym b.is_shown) (sym (scanned bytes t inner.raster b.dma))
    ∙ ap (ended_with bytes) c.self.view_is
