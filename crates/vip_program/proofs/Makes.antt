-- Moves that are made, one more at a time.
use Rattle.std.proofs.Common.{◌≡◌, ℕ, zero, suc, ◌+◌, ◌-◌, ◌/◌, ◌<◌, ◌≤◌, List, [], ◌∷◌, ◌++◌, map, Bool, true, false, refl, sym, ap, ◌∙◌, subst, arith, add-one, append_assoc, below_more}
use Rattle.std.specs.Prelude.{◌==◌, ◌&&◌}
use Rattle.std.proofs.lemmas.Bool.Decides.{nat_tests}
use Rattle.std.proofs.lemmas.Grind.{flat_map-append}
use Rattle.std.proofs.lemmas.List.{map-append}
use Rattle.machine.specs.Board.{Machine, Case, case_of, dma_byte}
use Rattle.machine.specs.Board.Case.{Dma, Interrupt, Idle, Instruction}
use Rattle.machine.specs.Run.{states}
use Rattle.machine.specs.Signals.{line_cycles}
use Rattle.vip_board.specs.Moves.{moved, moved_by, name_in, name_of}
use Rattle.vip_board.specs.declared.board.Move.{Move}
use Rattle.vip_board.specs.declared.board.Move.TheVariants as name
use Rattle.vip_board.proofs.Along.{cycles-some, states-more}
use Rattle.vip_board.specs.Seen.{Seen, held_by}
use Rattle.vip_byte.specs.HexText.{bytes_text, hex2}
use Rattle.vip_program.specs.Moves.{goes_on, is_idle, is_scan, machine_after, Makes, MakesAll, MakesStretch}
use Rattle.vip_program.specs.Trace.{share_in, share}
use Rattle.vip_program.proofs.Runs.{rom-by, machine-by, move-within}

-- so many are made, all of a kind
pub record Making (kind : Machine → Bool) (limit : ℕ) (old v : Seen) (made : ℕ) : Type 0 where
  pub makes : Makes limit old v made
  pub are : (k : ℕ) → k < made → kind (machine_after old k) ≡ true

both : (a b : Bool) → (a && b) ≡ true → (a ≡ true) × (b ≡ true)
both true b h = (refl, h)
both false b h = (h, absurd (let bad : false ≡ true = h in cc))

module _ (kind : Machine → Bool) (limit : ℕ) (old : Seen) where
  pub making-first : old.machine.cycle ≤ limit → Making kind limit old old 0
  making-first here = record { makes = record { moved = refl; within = here; goes = λ k l. absurd (omega (arith, l)) }; are = λ k l. absurd (omega (arith, l)) }

  module _ (v v' : Seen) (made : ℕ) (m : Making kind limit old v made) where
    rom_is : v.rom ≡ old.rom
    rom_is = ap (λ (s : Seen). s.rom) m.makes.moved ∙ rom-by old made

    machine_is : v.machine ≡ machine_after old made
    machine_is = ap (λ (s : Seen). s.machine) m.makes.moved ∙ machine-by old made

    -- one move more
    pub making-more : goes_on limit v.rom v.machine ≡ true → kind v.machine ≡ true → v' ≡ moved v → Making kind limit old v' (made + 1)
    making-more goes is next = record {
      makes = record {
        moved = next ∙ ap moved m.makes.moved ∙ ap (λ n. moved_by n old) (sym (add-one made));
        within = rw next (move-within v.rom (held_by v) limit v.machine goes);
        goes =
            below_more _ _ m.makes.goes (subst (λ c. goes_on limit old.rom c ≡ true) machine_is
            (subst (λ rom. goes_on limit rom v.machine ≡ true) rom_is goes));
      };
      are = below_more _ _ m.are (subst (λ c. kind c ≡ true) machine_is is);
    }

    pub making-next : (goes_on limit v.rom v.machine && kind v.machine) ≡ true → v' ≡ moved v → Making kind limit old v' (made + 1)
    making-next test next =
        making-more (both (goes_on limit v.rom v.machine) (kind v.machine) test).0 (both (goes_on limit v.rom v.machine) (kind v.machine) test).1 next

    -- and the next one isn't made, or is of another kind
    pub made-all : (count : ℕ) → made ≤ count → (made < count → (goes_on limit v.rom v.machine && kind v.machine) ≡ false)
        → MakesAll kind count limit old v made
    made-all count few ends = record {
      makes = m.makes;
      few = few;
      are = m.are;
      ends = λ more goes. by_test (kind v.machine) (subst (λ t. (t && kind v.machine) ≡ false) goes (ends more));
    }
      where
        by_test : (t : Bool) → (true && t) ≡ false → t ≡ false
        by_test t h = h

-- ---- moves of one line

-- two idle cycles share a line, and so do two DMA cycles of one raster line; a move of another kind doesn't share it
idle_shares : (k j : Case) (b c : Machine) → is_idle k ≡ true → share_in k j b c ≡ is_idle j
idle_shares Idle Idle b c is = refl
idle_shares Idle Dma b c is = refl
idle_shares Idle Interrupt b c is = refl
idle_shares Idle Instruction b c is = refl
idle_shares Dma j b c is = cc
idle_shares Interrupt j b c is = cc
idle_shares Instruction j b c is = cc

scan_shares : (line : ℕ) (k j : Case) (b c : Machine) → is_scan line k b ≡ true → share_in k j b c ≡ is_scan line j c
scan_shares line Dma Dma b c is = let e : b.cycle / line_cycles ≡ line = grind (arith, nat_tests) in rw e refl
scan_shares line Dma Idle b c is = refl
scan_shares line Dma Interrupt b c is = refl
scan_shares line Dma Instruction b c is = refl
scan_shares line Idle j b c is = cc
scan_shares line Interrupt j b c is = cc
scan_shares line Instruction j b c is = cc

module _ (limit count : ℕ) (old new : Seen) where
  module _ (kind : Machine → Bool) (made : ℕ) (m : MakesAll kind count limit old new made) where
    -- where the first move is of the kind and is made, there are some
    some_made : kind old.machine ≡ true → goes_on limit old.rom old.machine ≡ true → 0 < count → 0 < made
    some_made is goes some = by_number made refl
      where
        by_number : (n : ℕ) → made ≡ n → 0 < made
        by_number zero e =
            let same : new ≡ old = m.makes.moved ∙ ap (λ n. moved_by n old) e in
            let other = m.ends (omega (arith, e, some)) (rw same goes) in
            let no : kind old.machine ≡ false = sym (ap (λ (s : Seen). kind s.machine) same) ∙ other in
            let bad : true ≡ false = sym is ∙ no in
            cc
        by_number (suc n) e = omega (arith, e)

    -- moves of which two share a line exactly where the second is of this kind
    of_kind : ((b c : Machine) → kind b ≡ true → share b c ≡ kind c) → 0 < made → MakesStretch count limit old new made
    of_kind shares some = record {
      makes = m.makes;
      some = some;
      few = m.few;
      shared = λ k l. shares (machine_after old k) (machine_after old (suc k)) (m.are k (omega (arith, l))) ∙ m.are (suc k) l;
      ends = λ more goes. shares (machine_after old (made - 1)) new.machine (m.are (made - 1) (omega (arith, some))) ∙ m.ends more goes;
    }

  module _ (made : ℕ) (goes : goes_on limit old.rom old.machine ≡ true) (some : 0 < count) where
    pub idles : case_of old.machine ≡ Idle → MakesAll (λ b. is_idle (case_of b)) count limit old new made → MakesStretch count limit old new made
    idles is m =
        of_kind (λ b. is_idle (case_of b)) made m (λ b c h. idle_shares (case_of b) (case_of c) b c h)
        (some_made (λ b. is_idle (case_of b)) made m (ap is_idle is) goes some)

    pub scans : case_of old.machine ≡ Dma → (line : ℕ) → line ≡ old.machine.cycle / line_cycles
        → MakesAll (λ b. is_scan line (case_of b) b) count limit old new made → MakesStretch count limit old new made
    scans is line at m =
        of_kind (λ b. is_scan line (case_of b) b) made m (λ b c h. scan_shares line (case_of b) (case_of c) b c h)
        (some_made (λ b. is_scan line (case_of b) b) made m (ap (λ k. is_scan line k old.machine) is ∙ eqb_same (sym at)) goes some)
      where
        eqb_same : old.machine.cycle / line_cycles ≡ line → (old.machine.cycle / line_cycles == line) ≡ true
        eqb_same e = grind (arith, nat_tests)

  -- an instruction or an interrupt shares with none
  single : ((c : Machine) → share old.machine c ≡ false) → 0 < count → old.machine.cycle ≤ limit → goes_on limit old.rom old.machine ≡ true → new ≡ moved old
      → MakesStretch count limit old new 1
  single none some here goes next = record {
    makes = (making-more (λ b. true) limit old old new 0 (making-first (λ b. true) limit old here) goes refl next).makes;
    some = omega arith;
    few = omega (arith, some);
    shared = λ k l. absurd (omega (arith, l));
    ends = λ more go. none new.machine;
  }

  module _ (some : 0 < count) (here : old.machine.cycle ≤ limit) (goes : goes_on limit old.rom old.machine ≡ true) (next : new ≡ moved old) where
    pub one-instruction : case_of old.machine ≡ Instruction → MakesStretch count limit old new 1
    one-instruction is = single (λ c. ap (λ k. share_in k (case_of c) old.machine c) is) some here goes next

    pub one-interrupt : case_of old.machine ≡ Interrupt → MakesStretch count limit old new 1
    one-interrupt is = single (λ c. ap (λ k. share_in k (case_of c) old.machine c) is) some here goes next

-- ---- the case of a move, by its name

abbrev pub case_named : Move → Case
case_named name.Dma = Dma
case_named name.Interrupt = Interrupt
case_named name.Idle = Idle
case_named (name.Instruction address) = Instruction

pub case-named : (b : Machine) (name : Move) → name ≡ name_of b → case_of b ≡ case_named name
case-named b name is = by_case (case_of b) name is
  where
    by_case : (k : Case) (name : Move) → name ≡ name_in k b → k ≡ case_named name
    by_case Dma name e = rw e refl
    by_case Interrupt name e = rw e refl
    by_case Idle name e = rw e refl
    by_case Instruction name e = rw e refl

-- ---- the DMA cycles of a raster line

in_line : (line : ℕ) (k : Case) (b : Machine) → is_scan line k b ≡ true → b.cycle / line_cycles ≡ line
in_line line Dma b is = grind (arith, nat_tests)
in_line line Interrupt b is = cc
in_line line Idle b is = cc
in_line line Instruction b is = cc

module _ (line limit : ℕ) (old v : Seen) (made : ℕ) (m : Making (λ b. is_scan line (case_of b) b) limit old v made) where
  at_line : (k : ℕ) → k < made → (machine_after old k).cycle / 14 ≡ line
  at_line k l = in_line line (case_of (machine_after old k)) (machine_after old k) (m.are k l)

  -- a line has 14 cycles
  pub few-scans : made ≤ 14
  few-scans = by_number made refl
    where
      by_number : (n : ℕ) → made ≡ n → made ≤ 14
      by_number zero e = omega (arith, e)
      by_number (suc n) e =
          let first = at_line 0 (omega (arith, e)) in
          let last = at_line n (omega (arith, e)) in
          let later = cycles-some old.rom (held_by old) n old.machine in
          omega (arith, e, first, last, later)

  -- one byte more
  pub scanned-more : (start into into' : List ℕ)
      → into ≡ start ++ bytes_text (map (dma_byte old.rom) (states old.rom (held_by old) old.machine made))
      → into' ≡ into ++ bytes_text (dma_byte v.rom v.machine ∷ [])
      → into' ≡ start ++ bytes_text (map (dma_byte old.rom) (states old.rom (held_by old) old.machine (made + 1)))
  scanned-more start into into' before more =
      more
      ∙ ap (λ text. text ++ bytes_text (dma_byte v.rom v.machine ∷ [])) before
      ∙ append_assoc start (bytes_text (map (dma_byte old.rom) run)) (bytes_text (dma_byte v.rom v.machine ∷ []))
      ∙ ap (λ tail. start ++ tail) (sym (all))
    where
      run : List Machine
      run = states old.rom (held_by old) old.machine made

      here : dma_byte v.rom v.machine ≡ dma_byte old.rom (machine_after old made)
      here =
          ap (λ rom. dma_byte rom v.machine) (ap (λ (s : Seen). s.rom) m.makes.moved ∙ rom-by old made)
          ∙ ap (dma_byte old.rom) (ap (λ (s : Seen). s.machine) m.makes.moved ∙ machine-by old made)

      all : bytes_text (map (dma_byte old.rom) (states old.rom (held_by old) old.machine (made + 1))) ≡ bytes_text (map (dma_byte old.rom) run) ++ bytes_text
          (dma_byte v.rom v.machine ∷ [])
      all =
          ap (λ n. bytes_text (map (dma_byte old.rom) (states old.rom (held_by old) old.machine n))) (add-one made)
          ∙ ap (λ all. bytes_text (map (dma_byte old.rom) all)) (states-more old.rom (held_by old) made old.machine)
          ∙ ap bytes_text (map-append (dma_byte old.rom) run (machine_after old made ∷ []))
          ∙ flat_map-append (λ byte. 32 ∷ hex2 byte) (map (dma_byte old.rom) run) (dma_byte old.rom (machine_after old made) ∷ [])
          ∙ ap (λ byte. bytes_text (map (dma_byte old.rom) run) ++ bytes_text (byte ∷ [])) (sym here)
