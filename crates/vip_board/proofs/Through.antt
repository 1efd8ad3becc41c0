-- Moves that pass together.
use Rattle.std.proofs.Common.{◌≡◌, ◌⊎◌, inl, inr, ℕ, zero, suc, ◌+◌, ◌-◌, ◌<◌, ◌≤◌, Bool, true, false, ◌&&◌, not, refl, sym, ap, ap₂, ◌∙◌, subst, arith}
use Rattle.std.specs.Prelude.{None}
use Rattle.std.proofs.lemmas.Bool.{cases_lt}
use Rattle.machine.specs.Board.{Machine, case_of, length_of}
use Rattle.machine.specs.Instruction.{Regs}
use Rattle.machine.specs.Board.Case.{Idle as IdleCase, Instruction as InstructionCase}
use Rattle.machine.proofs.Moves.{case_idle}
use Rattle.machine.proofs.Runs.{cycle-move, later-move}
use Rattle.vip_cpu.specs.Cycle.{Processor}
use Rattle.vip_cpu.specs.declared.cpu.Phase.TheVariants.{Boundary}
use Rattle.vip_video.specs.Chip.{Chip, Pictures, scanned}
use Rattle.vip_video.specs.Quiet.{IsQuiet}
use Rattle.vip_memory.specs.Contents.{Contents}
use Rattle.vip_board.specs.Seen.{Seen, contents_of, held_by}
use Rattle.vip_board.specs.Moves.{moved, moved_by, later, sleeps, Aside, StartsInstruction, Passes, Made, Works, Worked}
use Rattle.vip_board.specs.Wired.{seen_of}
use Rattle.vip_board.specs.declared.wires.Wires.{Wires}
use Rattle.vip_board.proofs.Cases.{rests, moved-in}

pub positive : (n : ℕ) → (n ≡ 0 → ⊥) → 0 < n
positive zero h = absurd (h refl)
positive (suc n) h = omega arith

-- ---- idle cycles

never : (ie : Bool) {x : Bool} → x ≡ false → (ie && x) ≡ false
never true e = e
never false e = refl

idles : (b : Machine) (before shown : Bool) → b.regs.idle ≡ true → IsQuiet b.on before shown b.cycle → case_of b ≡ IdleCase
idles b before shown idle q = case_idle b q.dma (never b.regs.ie q.int) idle

idle_moved : (s : Seen) (before : Bool) → s.phase ≡ Boundary → s.machine.regs.idle ≡ true → IsQuiet s.machine.on before s.pictures.shown s.machine.cycle
    → moved s ≡ later s 1
idle_moved s before h idle q =
    let b = s.machine in
    let same : scanned b.cycle b.on None s.pictures ≡ s.pictures = q.pictures s.pictures refl in
    ap moved (rests s h)
    ∙ moved-in s.rom s.script b s.pictures IdleCase (idles b before s.pictures.shown idle q)
    ∙ ap (λ p. record (later s 1) { phase = Boundary; pictures = p }) same
    ∙ ap (λ p. record (later s 1) { phase = p }) (sym h)

pub rested : (n : ℕ) (s : Seen) (before : Bool) → s.phase ≡ Boundary → s.machine.regs.idle ≡ true
    → ((k : ℕ) → k < n → IsQuiet s.machine.on before s.pictures.shown (s.machine.cycle + k)) → moved_by n s ≡ later s n
rested zero s before h idle quiet =
    let same : s.machine.cycle ≡ s.machine.cycle + 0 = omega arith in
    ap (λ t. record s { machine = record s.machine { cycle = t } }) same
rested (suc n) s before h idle quiet =
    let next : s.machine.cycle + n + 1 ≡ s.machine.cycle + suc n = omega arith in
    ap moved (rested n s before h idle (λ k l. quiet k (omega (arith, l))))
    ∙ idle_moved (later s n) before h idle (quiet n (omega arith))
    ∙ ap (λ t. record s { machine = record s.machine { cycle = t } }) next

pub rested-aside : (n : ℕ) (s : Seen) (before : Bool) → s.phase ≡ Boundary → s.machine.regs.idle ≡ true
    → ((k : ℕ) → k < n → IsQuiet s.machine.on before s.pictures.shown (s.machine.cycle + k)) → Aside n s
rested-aside n s before h idle quiet k some below =
    let is = rested k s before h idle (λ j l. quiet j (omega (arith, l, below))) in
    let case : case_of (moved_by k s).machine ≡ IdleCase =
    ap (λ (x : Seen). case_of x.machine) is ∙ idles (later s k).machine before s.pictures.shown idle (quiet k below) in
    record {
      apart = λ starts. not_both (sym case ∙ starts);
      count = ap (λ (x : Seen). x.pictures.count) is;
      asleep = ap (λ (x : Seen). sleeps x.machine) is;
    }
  where
    not_both : IdleCase ≡ InstructionCase → ⊥
    not_both e = cc

-- said of a board by its parts
module _ {K : Type 0} (cpu : Processor) (w : Wires K) (s : Seen) (view : seen_of cpu w ≡ s) (h : s.phase ≡ Boundary) (idle : cpu.regs.idle ≡ true) (n : ℕ)
    (quiet : (k : ℕ) → k < n → IsQuiet w.video.on w.video.cycle_on w.video.pictures.shown (w.video.cycles + k)) where
  phase : (seen_of cpu w).phase ≡ Boundary
  phase = ap (λ (x : Seen). x.phase) view ∙ h

  pub rested-by : (m : ℕ) (chip : Chip) → m ≡ n → chip ≡ record w.video { cycles = w.video.cycles + n }
      → seen_of cpu (record w { video = chip }) ≡ moved_by m s
  rested-by m chip size is =
      ap (λ x. seen_of cpu (record w { video = x })) is
      ∙ sym (rested n (seen_of cpu w) w.video.cycle_on phase idle quiet)
      ∙ ap (moved_by n) view
      ∙ ap (λ k. moved_by k s) (sym size)

  pub aside-by : (m : ℕ) → m ≡ n → Aside m s
  aside-by m size =
      subst (Aside m) view (subst (λ j. Aside j (seen_of cpu w)) (sym size) (rested-aside n (seen_of cpu w) w.video.cycle_on phase idle quiet))

-- ---- so many moves

pub phase-by : (n : ℕ) (s : Seen) → (moved_by n s).phase ≡ s.phase
phase-by zero s = refl
phase-by (suc n) s = phase-by n s

pub later-by : (n : ℕ) (s : Seen) → s.machine.cycle + n ≤ (moved_by n s).machine.cycle
later-by zero s = omega arith
later-by (suc n) s = let v = moved_by n s in omega (arith, later-by n s, later-move v.rom (held_by v) v.machine)

-- no moves leave the board
pub stays : (n : ℕ) (s v : Seen) → v ≡ moved_by n s → n ≤ 0 → v ≡ s
stays zero s v e none = e
stays (suc n) s v e none = absurd (omega (arith, none))

more : (b a : ℕ) (s : Seen) → moved_by b (moved_by a s) ≡ moved_by (a + b) s
more zero a s = let same : a ≡ a + 0 = omega arith in ap (λ k. moved_by k s) same
more (suc b) a s = let next : suc (a + b) ≡ a + suc b = omega arith in ap moved (more b a s) ∙ ap (λ k. moved_by k s) next

-- none, and some by other means
pub none-made : (limit : ℕ) (stops : Regs → Contents → Type 0) (entry : Seen) → Made limit stops entry entry 0
none-made limit stops entry =
    record { moves = refl; passes = λ k some below. absurd (omega (arith, below)); within = λ some. absurd (omega (arith, some)) }

pub aside-made : (limit : ℕ) (stops : Regs → Contents → Type 0) (entry v : Seen) (n : ℕ) → v ≡ moved_by n entry → Aside n entry → (0 < n → v.machine.cycle ≤ limit)
    → Made limit stops entry v n
aside-made limit stops entry v n is aside within =
    record {
      moves = is;
      passes = λ k some below. let a = aside k some below in record { count = a.count; asleep = a.asleep; apart = λ starts stands. a.apart starts };
      within = within;
    }

pub few-made : (limit : ℕ) (stops : Regs → Contents → Type 0) (entry v : Seen) (n : ℕ) → Made limit stops entry v n → n ≤ limit
few-made limit stops entry v zero made = omega arith
few-made limit stops entry v (suc n) made =
    let within : (moved_by (suc n) entry).machine.cycle ≤ limit = subst (λ (x : Seen). x.machine.cycle ≤ limit) made.moves (made.within (omega arith)) in
    omega (arith, later-by (suc n) entry, within)

-- no picture is finished where the board doesn't have to be looked at
pub same-count : (limit : ℕ) (stops : Regs → Contents → Type 0) (entry v : Seen) (n : ℕ) → Made limit stops entry v n → (0 < n → Passes stops entry v)
    → v.pictures.count ≡ entry.pictures.count
same-count limit stops entry v zero made here = ap (λ (x : Seen). x.pictures.count) made.moves
same-count limit stops entry v (suc n) made here = (here (omega arith)).count

-- nor does the processor fall asleep
pub same-sleep : (limit : ℕ) (stops : Regs → Contents → Type 0) (entry v : Seen) (n : ℕ) → Made limit stops entry v n → (0 < n → Passes stops entry v)
    → sleeps v.machine ≡ sleeps entry.machine
same-sleep limit stops entry v zero made here = ap (λ (x : Seen). sleeps x.machine) made.moves
same-sleep limit stops entry v (suc n) made here = (here (omega arith)).asleep

module _ (limit : ℕ) (stops : Regs → Contents → Type 0) (entry v w : Seen) (n m : ℕ) (made : Made limit stops entry v n)
    (here : 0 < n → 0 < m → Passes stops entry v)
    (is : w ≡ moved_by m v) (passes : (k : ℕ) → 0 < k → k < m → Passes stops v (moved_by k v)) (in_time : 0 < m → w.machine.cycle ≤ limit) where
  count : 0 < m → v.pictures.count ≡ entry.pictures.count
  count more = same-count limit stops entry v n made (λ some. here some more)

  asleep : 0 < m → sleeps v.machine ≡ sleeps entry.machine
  asleep more = same-sleep limit stops entry v n made (λ some. here some more)

  at_last : (k : ℕ) → k ≡ n → 0 < k → 0 < m → Passes stops entry (moved_by k entry)
  at_last k e some more =
      subst (λ j. Passes stops entry (moved_by j entry)) (sym e) (subst (Passes stops entry) made.moves (here (omega (arith, some, e)) more))

  behind : (j : ℕ) → 0 < j → j < m → Passes stops entry (moved_by (n + j) entry)
  behind j some below =
      let p = passes j some below in
      let left : 0 < m = omega (arith, below) in
      subst (Passes stops entry) (ap (moved_by j) made.moves ∙ more j n entry) (record { count = p.count ∙ count left; asleep = p.asleep ∙ asleep left; apart = p.apart })

  passes_on : (k : ℕ) → 0 < k → k < n + m → Passes stops entry (moved_by k entry)
  passes_on k some below = by_place (cases_lt k n) (cases_lt n k)
    where
      by_place : (k < n) ⊎ (n ≤ k) → (n < k) ⊎ (k ≤ n) → Passes stops entry (moved_by k entry)
      by_place (inl l) g = made.passes k some l
      by_place (inr l) (inr g) = at_last k (omega (arith, l, g)) some (omega (arith, l, below))
      by_place (inr l) (inl g) =
          let same : n + (k - n) ≡ k = omega (arith, g) in
          subst (λ j. Passes stops entry (moved_by j entry)) same (behind (k - n) (omega (arith, g)) (omega (arith, g, below)))

  within_on : 0 < n + m → w.machine.cycle ≤ limit
  within_on some = by_size (cases_lt 0 m)
    where
      by_size : (0 < m) ⊎ (m ≤ 0) → w.machine.cycle ≤ limit
      by_size (inl l) = in_time l
      by_size (inr l) =
          subst (λ (x : Seen). x.machine.cycle ≤ limit) (sym (stays m v w is l)) (made.within (omega (arith, some, l)))

  pub made-more : Made limit stops entry w (n + m)
  made-more = record { moves = is ∙ ap (moved_by m) made.moves ∙ more m n entry; passes = passes_on; within = within_on }

-- a board that has to be looked at for no stop and no picture passes where its processor is awake
pub record Looks (stops : Regs → Contents → Type 0) (entry v : Seen) : Type 0 where
  pub count : v.pictures.count ≡ entry.pictures.count
  pub apart : StartsInstruction v.machine → stops v.machine.regs (contents_of v) → ⊥

pub passes-awake : (stops : Regs → Contents → Type 0) (entry v : Seen) → Looks stops entry v → sleeps v.machine ≡ false → sleeps entry.machine ≡ false
    → Passes stops entry v
passes-awake stops entry v looks now then = record { count = looks.count; asleep = now ∙ sym then; apart = looks.apart }

pub one-more : (limit : ℕ) (stops : Regs → Contents → Type 0) (entry v w : Seen) (n : ℕ) → Made limit stops entry v n → (0 < n → Passes stops entry v) → w ≡ moved v
    → w.machine.cycle ≤ limit → Made limit stops entry w (n + 1)
one-more limit stops entry v w n made here is within =
    made-more limit stops entry v w n 1 made (λ some _. here some) is (λ k some below. absurd (omega (arith, some, below))) (λ _. within)

-- where it ends in time
pub one-made : (limit : ℕ) (stops : Regs → Contents → Type 0) (s v : Seen) → v ≡ moved s → (limit < s.machine.cycle + length_of s.rom s.machine → ⊥) → Made limit stops s v 1
one-made limit stops s v is in_time =
    let cycle : v.machine.cycle ≡ s.machine.cycle + length_of s.rom s.machine =
    ap (λ (x : Seen). x.machine.cycle) is ∙ cycle-move s.rom (held_by s) s.machine in
    one-more limit stops s s v 0 (none-made limit stops s) (λ some. absurd (omega (arith, some))) is
    (subst (λ c. c ≤ limit) (sym cycle) (not_above (s.machine.cycle + length_of s.rom s.machine) limit in_time))
  where
    not_above : (n limit : ℕ) → (limit < n → ⊥) → n ≤ limit
    not_above n limit h = grind arith

-- ---- instructions whose cycles aren't counted yet

module _ (most : ℕ) (stops : Regs → Contents → Type 0) (entry v w : Seen) (n passed length : ℕ) (worked : Worked most stops entry v n passed) (here : 0 < n → Passes stops entry (later v passed))
    (works : Works length v w) (quiet : (k : ℕ) → k < most → IsQuiet entry.machine.on entry.machine.on entry.pictures.shown (entry.machine.cycle + k))
    (few : passed + length ≤ most) (some : 0 < length) where
  here_quiet : (k : ℕ) → k < length → IsQuiet v.machine.on v.machine.on v.pictures.shown (v.machine.cycle + passed + k)
  here_quiet k l =
      let at_cycle : entry.machine.cycle + (passed + k) ≡ v.machine.cycle + passed + k = omega (arith, worked.cycle) in
      subst (λ on. IsQuiet on on v.pictures.shown (v.machine.cycle + passed + k)) (sym worked.on)
      (subst (λ (p : Pictures). IsQuiet entry.machine.on entry.machine.on p.shown (v.machine.cycle + passed + k)) (sym worked.pictures)
      (subst (IsQuiet entry.machine.on entry.machine.on entry.pictures.shown) at_cycle (quiet (passed + k) (omega (arith, l, few)))))

  pub worked-more : Worked most stops entry w (n + 1) (passed + length)
  worked-more =
      record {
        made =
            one-more (entry.machine.cycle + most) stops entry (later v passed) (later w (passed + length)) n worked.made here
            (works.moved passed here_quiet) (omega (arith, works.cycle, worked.cycle, few));
        each = omega (arith, worked.each, some);
        few = few;
        cycle = works.cycle ∙ worked.cycle;
        on = works.on ∙ worked.on;
        pictures = works.pictures ∙ worked.pictures;
      }

  pub passes-more : (stops w.machine.regs (contents_of w) → ⊥) → Passes stops entry (later w (passed + length))
  passes-more apart =
      record {
        count =
            ap (λ (p : Pictures). p.count) works.pictures
            ∙ same-count (entry.machine.cycle + most) stops entry (later v passed) n worked.made here;
        asleep =
            ap₂ (λ idle on. idle && not on) works.awake works.on
            ∙ same-sleep (entry.machine.cycle + most) stops entry (later v passed) n worked.made here;
        apart = λ starts stands. apart stands;
      }
