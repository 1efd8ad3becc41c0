-- What the block lemmas of all groups use: the step at the end of a routine.
use Rattle.std.proofs.Common.{◌≡◌, ℕ, zero, suc, ◌+◌, ◌*◌, ◌≤◌, nat_lt, arith, refl, sym, ◌∙◌, ap, subst, Bool, true, false, cond, List}
use Rattle.std.specs.Prelude.{Some, None, if◌then◌else◌}
use Rattle.machine.specs.Bank.{word_of}
use Rattle.machine.specs.Board.{Machine}
use Rattle.chip8_lang.specs.declared.instr.Instr.{Instr}
use Rattle.chip8_lang.specs.declared.instr.Instr.TheVariants.{Clear, Return, Call, Draw, SkipDown, SkipUp, WaitKey, Decimal, Store, Fetch}
use Rattle.chip8_lang.specs.declared.view.Edition.{Edition}
use Rattle.chip8_lang.specs.declared.view.Stop.TheVariants.{FetchOutside}
use Rattle.chip8_lang.specs.State.{Lang, instr_at, is_fetchable}
use Rattle.chip8_lang.specs.Step.{KeyInput, stop_of, stop_of_instr, step, done_by}
use Rattle.chip8_lang.specs.Step.KeyInput.{Nothing}
use Rattle.chip8_lang.specs.Ticks.{tick, ticks}
use Rattle.chip8_lang.specs.Between.{Allows, WaitsWell}
use Rattle.chip8_lang.specs.Editions.{memory_start}
use Rattle.chip8_lang.specs.Timed.{cycles, stopped_cycles, stop_cycles}
use Rattle.chip8_image.specs.declared.image.labels.TheConstants.{AT_FETCH}
use Rattle.rom_law.specs.Moments.{TicksBefore, Sees, Searches, Holds, MovesTell, is_waiting, takes_by}
use Rattle.rom_law.specs.Holding.{places, Holding}
use Rattle.rom_law.specs.Rows.{Since, Grows, Pieces, Ends, now}
use Rattle.rom_law.specs.Rows.Ends.{Steps}
use Rattle.rom_law.proofs.Places.{keeping}
use Rattle.rom_law.proofs.Steps.{now_same, step_made, instr_now}
use Rattle.rom_rows.specs.Rom.{program_of}
use Rattle.rom_rows.specs.Table.{calm_pieces, waited_pieces}
use Rattle.rom_rows.proofs.Later.{ticks_timed}

-- ticks leave the stop
stop_tick : (e : Edition) (s : Lang) (i : Instr) → stop_of_instr e i (tick s) ≡ stop_of_instr e i s
stop_tick e s (Call a) = refl
stop_tick e s Return = refl
stop_tick e s (Fetch x) = refl
stop_tick e s (Draw x y n) = refl
stop_tick e s (Decimal x) = refl
stop_tick e s (Store x) = refl
stop_tick e s _ = refl

pub stop_ticks : (e : Edition) (n : ℕ) (s : Lang) → stop_of e (ticks n s) ≡ stop_of e s
stop_ticks e zero s = refl
stop_ticks e (suc n) s = ap (λ o. cond (is_fetchable e (ticks n s)) o (Some FetchOutside)) (stop_tick e (ticks n s) (instr_at (ticks n s))) ∙ stop_ticks e n s

-- instructions that take no key and don't wait
abbrev pub is_prompt : Instr → Bool
is_prompt Clear = false
is_prompt (Draw x y n) = false
is_prompt (SkipDown x) = false
is_prompt (SkipUp x) = false
is_prompt (WaitKey x) = false
is_prompt _ = true

keyless : (i : Instr) → is_prompt i ≡ true → (h : Since) → Allows i h.state h.keys Nothing
keyless Clear k h = cc
keyless (Draw x y n) k h = cc
keyless (SkipDown x) k h = cc
keyless (SkipUp x) k h = cc
keyless (WaitKey x) k h = cc
keyless _ k h = tt

no_wait : (i : Instr) → is_prompt i ≡ true → (n : ℕ) → WaitsWell i n 0
no_wait Clear k n = cc
no_wait (Draw x y m) k n = cc
no_wait _ k n = tt

-- ---- what the main moves say, at the end of a block

pub meets_grown : {h h' : Since} {k n : ℕ} → Grows h k 0 h' → TicksBefore h.moments n h.ticks → TicksBefore h'.moments n h'.ticks
meets_grown g m = record { moment = m.moment; among = g.moments m.moment m.among; at = m.at; after = omega (arith, m.after, g.ticks) }

pub sees_grown : {h h' : Since} {k n key : ℕ} {down : Bool} → Grows h k 0 h' → Sees h.moments n key down → Sees h'.moments n key down
sees_grown g m = record { moment = m.moment; among = g.moments m.moment m.among; at = m.at; is = m.is }

pub searches_grown : {h h' : Since} {k turns : ℕ} → Grows h k 0 h' → Searches h.moments turns → Searches h'.moments turns
searches_grown g m = λ i l. sees_grown g (m i l)

pub holds_grown : {h h' : Since} {k turn looks : ℕ} → Grows h k 0 h' → Holds h.moments turn looks → Holds h'.moments turn looks
holds_grown g m =
    record { searched = searches_grown g m.searched; down = sees_grown g m.down; held = λ i l. sees_grown g (m.held i l) }

-- ---- the steps of the calm pieces

prompt_goes : (i : Instr) → is_prompt i ≡ true → is_waiting i ≡ false
prompt_goes Clear k = cc
prompt_goes (Draw x y m) k = cc
prompt_goes (SkipDown x) k = cc
prompt_goes (SkipUp x) k = cc
prompt_goes (WaitKey x) k = cc
prompt_goes i k = refl

-- the instruction is that of the last dispatch point
pub makes_calm : {h h' : Since} {k : ℕ} → Grows h k 0 h' → {i : Instr} → instr_at (now h) ≡ i → is_waiting i ≡ false
    → is_waiting (instr_at h'.state) ≡ false
makes_calm {h = h} g is calm = ap (λ s. is_waiting (instr_at s)) g.state ∙ ap is_waiting (sym (instr_now h) ∙ is) ∙ calm

-- ---- main cycles

pub some_is : {a b : ℕ} → Some a ≡ Some b → a ≡ b
some_is k = cc

-- ticks leave them
takes_ticks : (e : Edition) (i : Instr) (key : KeyInput) (n : ℕ) (s : Lang) → takes_by e i (ticks n s) key ≡ takes_by e i s key
takes_ticks e Clear key n s = refl
takes_ticks e i key n s = ap (λ z. takes_by e i z key) (sym (ticks_timed n s))

stopped_ticks : (i : Instr) (n : ℕ) (s : Lang) → stopped_cycles i (ticks n s) ≡ stopped_cycles i s
stopped_ticks Return n s = refl
stopped_ticks i n s = ap (stopped_cycles i) (sym (ticks_timed n s))

pub stop_cycles_ticks : (e : Edition) (n : ℕ) (s : Lang) → stop_cycles e (ticks n s) ≡ stop_cycles e s
stop_cycles_ticks e n s =
    ap (λ z. if is_fetchable e z then stopped_cycles (instr_at z) (ticks n s) else if nat_lt z.pc memory_start then 32 else 42)
    (sym (ticks_timed n s)) ∙ ap (λ c. if is_fetchable e s then c else if nat_lt s.pc memory_start then 32 else 42) (stopped_ticks (instr_at s) n s)

-- those of an instruction that takes no key
prompt_takes : (e : Edition) (i : Instr) → is_prompt i ≡ true → (s : Lang) (n : ℕ) → takes_by e i s Nothing ≡ Some n → cycles e i Nothing s ≡ n
prompt_takes e Clear k s n t = cc
prompt_takes e (Draw x y m) k s n t = cc
prompt_takes e (SkipDown x) k s n t = cc
prompt_takes e (SkipUp x) k s n t = cc
prompt_takes e (WaitKey x) k s n t = cc
prompt_takes e i k s n t = some_is t

-- The step was made: the instruction i of a state that doesn't stop has left its result in the places, and the machine is at the fetch.
module _ (e : Edition) {k : ℕ} {h h' : Since} (g : Grows h k 0 h') (i : Instr) (is : instr_at (now h) ≡ i) (runs : stop_of e (now h) ≡ None) where
  no_stop : stop_of e h'.state ≡ None
  no_stop = ap (stop_of e) g.state ∙ sym (stop_ticks e h.ticks h.state) ∙ runs

  same : instr_at h'.state ≡ i
  same = sym (instr_now h') ∙ ap instr_at (now_same g) ∙ is

  stepped : (key : KeyInput) → done_by e i key (now h) ≡ step e key (now h')
  stepped key = ap (λ j. done_by e j key (now h)) (sym is) ∙ ap (step e key) (sym (now_same g))

  -- its main cycles are those of the state at the last dispatch point
  taken : (key : KeyInput) (n : ℕ) → takes_by e (instr_at h'.state) h'.state key ≡ Some n → takes_by e i (now h) key ≡ Some n
  taken key n t =
      takes_ticks e i key h.ticks h.state ∙ ap (λ j. takes_by e j h.state key) (sym is ∙ instr_now h)
      ∙ ap (λ z. takes_by e (instr_at z) z key) (sym g.state) ∙ t

  -- what it took from the keypad is allowed, and its main cycles have passed
  pub steps_with : {rom : List ℕ} {t : Pieces} (key : KeyInput) → Allows i h'.state h'.keys key → WaitsWell i h'.ticks 0
      → ((n : ℕ) → takes_by e i (now h) key ≡ Some n → h.spent + 2 * k ≡ n) → MovesTell i h'.state h'.moments h'.spent h'.ticks key
      → t.Makes h'.state → (c : Machine)
      → Holding (program_of e rom) (places c) (done_by e i key (now h)) → c.regs.p ≡ 4 → c.regs.r.r4 ≡ word_of AT_FETCH
      → Ends (program_of e rom) t c h'
  steps_with {rom = rom} key allowed waits time told makes c o p r4 = Steps (step e key (now h')) (record {
    runs = no_stop;
    between = step_made e h' i key no_stop same allowed waits;
    time = λ n t. g.spent ∙ time n (taken key n t);
    told = subst (λ j. MovesTell j h'.state h'.moments h'.spent h'.ticks key) (sym same) told;
    stands =
        record {
          keeps = keeping (program_of e rom) c (step e key (now h')) (subst (Holding (program_of e rom) (places c)) (stepped key) o);
          p = p;
          r4 = r4;
        };
  }) makes

-- the same, where it takes no key and doesn't wait
pub steps : (e : Edition) {rom : List ℕ} {k : ℕ} {h h' : Since} (g : Grows h k 0 h') (i : Instr) (is : instr_at (now h) ≡ i)
    (prompt : is_prompt i ≡ true) (runs : stop_of e (now h) ≡ None) (time : h.spent + 2 * k ≡ cycles e i Nothing (now h))
    (told : MovesTell i h'.state h'.moments h'.spent h'.ticks Nothing) (c : Machine)
    → Holding (program_of e rom) (places c) (done_by e i Nothing (now h)) → c.regs.p ≡ 4 → c.regs.r.r4 ≡ word_of AT_FETCH
    → Ends (program_of e rom) (calm_pieces (program_of e rom)) c h'
steps e {h = h} {h' = h'} g i is prompt runs time told c o p r4 =
    steps_with e g i is runs Nothing (keyless i prompt h') (no_wait i prompt h'.ticks) (λ n t. time ∙ prompt_takes e i prompt (now h) n t)
    told (makes_calm g is (prompt_goes i prompt)) c o p r4

-- for 00E0 and DXYN, where a tick came
module _ (e : Edition) {k : ℕ} {h h' : Since} (g : Grows h k 0 h') (tick : 1 ≤ h.ticks) (runs : stop_of e (now h) ≡ None) where
  waited : 1 ≤ h'.ticks
  waited = omega (arith, tick, g.ticks)

  pub clears : {rom : List ℕ} → instr_at (now h) ≡ Clear → h.spent + 2 * k ≡ cycles e Clear Nothing (now h) → (c : Machine)
      → Holding (program_of e rom) (places c) (done_by e Clear Nothing (now h)) → c.regs.p ≡ 4 → c.regs.r.r4 ≡ word_of AT_FETCH
      → Ends (program_of e rom) (waited_pieces (program_of e rom)) c h'
  clears is time c o p r4 = steps_with e g Clear is runs Nothing tt (waited, refl) (λ n t. time ∙ some_is t) tt tt c o p r4

  pub draws : {rom : List ℕ} {x y n : ℕ} → instr_at (now h) ≡ Draw x y n
      → h.spent + 2 * k ≡ cycles e (Draw x y n) Nothing (now h) → (c : Machine)
      → Holding (program_of e rom) (places c) (done_by e (Draw x y n) Nothing (now h)) → c.regs.p ≡ 4 → c.regs.r.r4 ≡ word_of AT_FETCH
      → Ends (program_of e rom) (waited_pieces (program_of e rom)) c h'
  draws {x = x} {y = y} {n = n} is time c o p r4 =
      steps_with e g (Draw x y n) is runs Nothing tt (waited, refl) (λ m t. time ∙ some_is t) tt tt c o p r4
