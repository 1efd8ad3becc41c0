-- The law of every schedule holds of each ROM whose pieces come to what they should.
use Rattle.std.proofs.Common.{◌≡◌, ℕ, suc, ◌+◌, refl, sym, ◌∙◌, ap, ap₂, subst, arith, Bool, true, false, ◌||◌, List, [], ◌∷◌, ◌++◌}
use Rattle.std.specs.Prelude.{Some, None}
use Rattle.std.proofs.lemmas.Bool.{eq-eqb}
use Rattle.machine.specs.Bank.{value, word_of}
use Rattle.machine.specs.Board.{Machine}
use Rattle.machine.specs.Keys.{Keys}
use Rattle.machine.specs.Ranges.{FitsMachine}
use Rattle.chip8_lang.specs.declared.view.Stop.{Stop}
use Rattle.chip8_lang.specs.Editions.{memory_end}
use Rattle.chip8_lang.specs.State.{Lang}
use Rattle.chip8_lang.specs.Ticks.{ticks}
use Rattle.chip8_lang.specs.Between.{Between}
use Rattle.rom_law.specs.Code.{Input, moved, is_by, is_event}
use Rattle.rom_law.specs.Later.{After}
use Rattle.machine.proofs.Fits.{main-fits}
use Rattle.rom_law.proofs.Ranges.{tick_fits}
use Rattle.rom_law.proofs.Ticks.{after_none}
use Rattle.rom_law.proofs.Ticks.{after_tick as later_tick}
use Rattle.rom_law.specs.Program.{Program, code, Dispatches, Halts}
use Rattle.rom_law.specs.Rows.{Since, Pieces, Row, Outcome, now, dispatched, after_main, after_tick}
use Rattle.rom_law.specs.Rows.Outcome.{Still, Dispatched as Arrived, Halted}
use Rattle.rom_law.specs.Schedules.{Ticked, Leads, Follows, EverySchedule}
use Rattle.rom_law.specs.Schedules.Ticked.{Never, Again}
use Rattle.rom_law.specs.Schedules.Leads.{Here, ByTick, ByMain}
use Rattle.rom_law.specs.Schedules.Follows.{Dispatched, Stopped}
use Rattle.rom_law.proofs.Language.{ticks_add, between_ticks}
use Rattle.rom_law.proofs.Later.{dispatches_after, halts_after}
use Rattle.rom_law.proofs.Kept.{Proved, row_starts, row_moves, row_ticks}

-- ---- events

pub whole : (a : ℕ) → value (word_of a) ≡ a
whole a = omega arith

either_true : (t u : Bool) → u ≡ true → (t || u) ≡ true
either_true true u e = refl
either_true false u e = e

module _ (x : Program) where
  -- a dispatch is at the fetch loop, and a stop at the stop
  pub dispatch_by : (b : Machine) (s : Lang) → Dispatches x b s → is_by 4 x.interpreter.fetch b ≡ true
  dispatch_by b s d = rw (d.p) (eq-eqb (value b.regs.r.r4) x.interpreter.fetch (ap value d.r4 ∙ whole x.interpreter.fetch))

  pub halt_by : (b : Machine) (s : Lang) (stop : Stop) → Halts x b s stop → is_by 3 x.interpreter.halt b ≡ true
  halt_by b s stop d = rw (d.p) (eq-eqb (value b.regs.r.r3) x.interpreter.halt (ap value d.r3 ∙ whole x.interpreter.halt))

  dispatch_event : (b : Machine) (s : Lang) → Dispatches x b s → is_event (code x) b ≡ true
  dispatch_event b s d = rw (dispatch_by b s d) refl

  halt_event : (b : Machine) (s : Lang) (stop : Stop) → Halts x b s stop → is_event (code x) b ≡ true
  halt_event b s stop d = either_true (is_by 4 x.interpreter.fetch b) (is_by 3 x.interpreter.halt b) (halt_by b s stop d)

differ : {X : Type 0} {t : Bool} → t ≡ true → t ≡ false → X
differ {t = t} e f = cc

-- ---- ticks alone

ticked_after : (x : Program) (b : Machine) (n : ℕ) (c : Machine) → b.regs.idle ≡ false → Ticked x b n c → After (memory_end x.edition) n b c
ticked_after x b _ _ i Never = after_none (memory_end x.edition) b
ticked_after x b _ _ i (Again n c d t k) = later_tick (memory_end x.edition) n b c d i (ticked_after x b n c i t) k

-- ---- the law

module _ (x : Program) (t : Pieces) (proved : Proved x t) (b : Machine) (s : Lang) (fits : FitsMachine b) (stands : Dispatches x b s) where
  -- what is known along the schedule
  record RowKnown (n : ℕ) (sets : List Keys) (c : Machine) : Type 0 where
    since : Since
    state : since.state ≡ s
    ticks : since.ticks ≡ n
    keys : since.keys ≡ sets
    row : Row x t c since
    range : FitsMachine c

  known_main : (n : ℕ) (sets : List Keys) (c : Machine) (u : Input) (k : RowKnown n sets c) → is_event (code x) (moved (code x) u c) ≡ false
      → Outcome x t (moved (code x) u c) (after_main u k.since) → RowKnown n (sets ++ u.held ∷ []) (moved (code x) u c)
  known_main n sets c u k e (Still calm row) =
      record {
        since = after_main u k.since;
        state = k.state;
        ticks = k.ticks;
        keys = ap (λ l. l ++ u.held ∷ []) k.keys;
        row = row;
        range = main-fits x.interpreter.rom proved.rom u.efx u.held c k.range;
      }
  known_main n sets c u k e (Arrived z st makes) = differ (dispatch_event x (moved (code x) u c) z st.stands) e
  known_main n sets c u k e (Halted stop st) = differ (halt_event x (moved (code x) u c) (now (after_main u k.since)) stop st.halts) e

  known : (n : ℕ) (sets : List Keys) (c : Machine) → Leads x b n sets c → RowKnown n sets c
  known _ _ _ Here =
      record {
        since = dispatched 0 s;
        state = refl;
        ticks = refl;
        keys = refl;
        row = row_starts x t proved b (dispatched 0 s) fits (proved.fetch 0 b s fits stands);
        range = fits;
      }
  known _ _ _ (ByTick n sets c d l k) =
      let r = known n sets c l in record {
        since = after_tick r.since;
        state = r.state;
        ticks = ap suc r.ticks;
        keys = r.keys;
        row = row_ticks x t proved c d r.since r.range k r.row;
        range = tick_fits (memory_end x.edition) c d r.range k;
      }
  known _ _ _ (ByMain n sets c d efx held l m e) =
      let r = known n sets c l in let u : Input = record { efx = efx; held = held } in
      subst (RowKnown n (sets ++ held ∷ [])) (sym m.moved)
      (known_main n sets c u r (subst (λ z. is_event (code x) z ≡ false) m.moved e) (row_moves x t proved u c r.since r.range m.awake r.row))

  -- the event, and ticks after it
  module _ (n : ℕ) (sets : List Keys) (c : Machine) (k : RowKnown n sets c) (u : Input) (m : ℕ) (e : Machine) where
    abbrev d : Machine
    d = moved (code x) u c

    follows : FitsMachine d → Ticked x d m e → is_event (code x) d ≡ true → Outcome x t d (after_main u k.since) → Follows x s (n + m) (sets ++ u.held ∷ []) e
    follows f l v (Still calm row) = differ v calm
    follows f l v (Arrived z st makes) =
        Dispatched (ticks m z) (subst (λ y. x.stop_of y ≡ None) k.state st.runs)
        (subst (λ y. Between x.edition y (n + m) (sets ++ u.held ∷ []) (ticks m z)) k.state
        (subst (λ i. Between x.edition k.since.state (i + m) (sets ++ u.held ∷ []) (ticks m z)) k.ticks
        (subst (λ y. Between x.edition k.since.state (k.since.ticks + m) (y ++ u.held ∷ []) (ticks m z)) k.keys
        (between_ticks m x.edition k.since.state k.since.ticks (k.since.keys ++ u.held ∷ []) z st.between))))
        (dispatches_after x m d e (ticked_after x d m e st.stands.keeps.lies.awake l) f z st.stands)
    follows f l v (Halted stop st) =
        Stopped stop (subst (λ y. x.stop_of y ≡ Some stop) k.state st.fits)
        (subst (λ y. Halts x e y stop) (ticks_add m k.since.ticks k.since.state ∙ ap₂ ticks (ap (λ i. i + m) k.ticks) k.state)
        (halts_after x m d e (ticked_after x d m e st.halts.keeps.lies.awake l) f (now k.since) stop st.halts))

pub every_schedule : (x : Program) (t : Pieces) → Proved x t → EverySchedule x
every_schedule x t proved b s fits stands n sets c l efx held d m v j e k = go (known x t proved b s fits stands n sets c l)
  where
    u : Input
    u = record { efx = efx; held = held }

    go : RowKnown x t proved b s fits stands n sets c → Follows x s (n + j) (sets ++ held ∷ []) e
    go r =
        follows x t proved b s fits stands n sets c r u j e (main-fits x.interpreter.rom proved.rom efx held c r.range)
        (subst (λ z. Ticked x z j e) m.moved k) (subst (λ z. is_event (code x) z ≡ true) m.moved v)
        (row_moves x t proved u c r.since r.range m.awake r.row)
