-- Behind a wait main code is done before the next interrupt: so none comes while the screen is changed.
use Rattle.std.proofs.Common.{◌≡◌, ℕ, ◌+◌, ◌-◌, ◌*◌, ◌/◌, ◌%◌, ◌<◌, ◌≤◌, ◌⊎◌, inl, inr, refl, sym, ◌∙◌, ap, subst, arith, List, true, false}
use Rattle.std.specs.Prelude.{Some, None}
use Rattle.machine.specs.Board.{Machine}
use Rattle.machine.specs.Keys.{Event}
use Rattle.machine.specs.Pictures.{interrupt_at, place, interrupt_place}
use Rattle.chip8_lang.specs.declared.instr.Instr.{Instr}
use Rattle.chip8_lang.specs.declared.instr.Instr.TheVariants.{Clear as IsClear, Draw as IsDraw}
use Rattle.chip8_lang.specs.declared.view.Edition.{Edition}
use Rattle.chip8_lang.specs.State.{Lang, instr_at}
use Rattle.chip8_lang.specs.Between.{ticks_between}
use Rattle.chip8_lang.specs.Step.{KeyInput, stop_of}
use Rattle.chip8_lang.specs.Timed.{interrupts, later, ended, woken, before_wait, behind_wait, routine_cycles}
use Rattle.rom_law.specs.Code.{is_event}
use Rattle.rom_law.specs.Moments.{takes_by}
use Rattle.rom_law.specs.Program.{code}
use Rattle.rom_law.specs.Rows.{Since, Row, Outcome, now, after_tick}
use Rattle.rom_law.specs.Rows.Row.{Inside, Alone}
use Rattle.rom_law.specs.Rows.Outcome.{Still, Dispatched, Halted}
use Rattle.rom_law.proofs.Events.{neither}
use Rattle.rom_law.proofs.Kept.{block_awake}
use Rattle.rom_law.proofs.Language.{ticks_instr}
use Rattle.rom_law.proofs.Schedules.{dispatch_by, halt_by}
use Rattle.rom_rows.specs.Heads.{high_byte, low_byte}
use Rattle.rom_rows.specs.Rom.{vip}
use Rattle.rom_rows.specs.SpriteBlocks.{SpriteBlock, IsWaited, Clears, draw_time}
use Rattle.rom_rows.specs.SpriteBlocks.SpriteBlock.{Wipe, Wipe3, Wipe6, Wiped, Cleared, Line, LineLeft, LineRight, Drawn}
use Rattle.rom_rows.specs.SpriteBlocks.SpritePlace.{ClearWait, ClearIdle, DrawWait, DrawIdle}
use Rattle.rom_rows.specs.Table.{Head, moves, pieces, waited_pieces}
use Rattle.rom_rows.specs.Table.Block.{OfSprite}
use Rattle.rom_rows.specs.Table.Place.{AtTimer, AtKey, AtSprite}
use Rattle.rom_rows.proofs.Later.{before_ticks}
use Rattle.rom_rows.proofs.Steps.{stop_ticks}
use Rattle.rom_rows.proofs.Most.{draw_most}
use Rattle.rom_run.specs.Running.{IsBehind, Interval}
use Rattle.rom_run.specs.Time.{Spends, WaitsBy, Woken, Timed, wait_time, since_return, since_window, most_changing}
use Rattle.rom_run.specs.Time.Timed.{Before, Waiting, Behind}
use Rattle.rom_run.specs.Time.WaitsBy.{ToClear, ToDraw}
use Rattle.rom_run.proofs.Behind.{waited_awake}
use Rattle.rom_run.proofs.Exact.{woken_is, later_soon, due_behind, waits_take}
use Rattle.rom_run.proofs.Proved.{proved}
use Rattle.rom_rows.proofs.Haste.{few}
use Rattle.rom_run.proofs.Waits.{sleeps, timer_awake, key_awake}
use Rattle.rom_law.proofs.Places.{few_rows}

-- ---- where main code waits

-- after so many main cycles, and these are few
pub record Waits (e : Edition) (h : Since) : Type 0 where
  pub most : ℕ
  pub waits : WaitsBy h.state most
  pub soon : h.spent ≤ most
  pub some : 0 < h.spent
  pub exact : h.spent ≡ wait_time e h.state

-- the instruction at the last dispatch point is that of the state after the ticks since
instr_then : (h : Since) {i : Instr} → instr_at (now h) ≡ i → instr_at h.state ≡ i
instr_then h is = sym (ticks_instr h.ticks h.state) ∙ is

to_clear : (s : Lang) → Clears s → instr_at s ≡ IsClear
to_clear s is = rw (is.0, is.1) refl

to_draw : (s : Lang) → high_byte s / 16 ≡ 13 → instr_at s ≡ IsDraw (high_byte s % 16) (low_byte s / 16) (low_byte s % 16)
to_draw s is = rw is refl

-- how long it takes before the wait is told by the state after ticks
clear_wait : (e : Edition) (s : Lang) → instr_at s ≡ IsClear → wait_time e s ≡ 102
clear_wait e s is = ap (λ i. before_wait e i s) is

draw_wait : (e : Edition) (h : Since) → high_byte (now h) / 16 ≡ 13 → wait_time e h.state ≡ draw_time e (now h)
draw_wait e h digit =
    sym (ap (λ i. before_wait e i (now h)) (ticks_instr h.ticks h.state) ∙ before_ticks e (instr_at h.state) h.ticks h.state)
    ∙ ap (λ i. before_wait e i (now h)) (to_draw (now h) digit)

pub row_waits : (e : Edition) (b : Machine) (h : Since) → b.regs.idle ≡ true → Row (vip e) (pieces (vip e)) b h → Waits e h
row_waits e b h i (Inside l r) = absurd (sleeps (sym i ∙ block_awake (vip e) (pieces (vip e)) (proved e) r))
row_waits e b h i (Alone (AtTimer l) o) = absurd (sleeps (sym i ∙ timer_awake (vip e) b (now h) h.keys l o.0))
row_waits e b h i (Alone (AtKey l) o) = absurd (sleeps (sym i ∙ key_awake (vip e) b (now h) h.keys l o.0))
row_waits e b h i (Alone (AtSprite ClearWait) o) = absurd (sleeps (sym i ∙ o.0.holds.awake))
row_waits e b h i (Alone (AtSprite ClearIdle) o) =
    record {
      most = 102;
      waits = ToClear (instr_then h (to_clear (now h) o.0.0.clears));
      soon = omega (arith, o.1);
      some = omega (arith, o.1);
      exact = o.1 ∙ sym (clear_wait e h.state (instr_then h (to_clear (now h) o.0.0.clears)));
    }
row_waits e b h i (Alone (AtSprite DrawWait) o) = absurd (sleeps (sym i ∙ o.0.holds.awake))
row_waits e b h i (Alone (AtSprite DrawIdle) o) =
    record {
      most = 2154;
      waits = ToDraw _ _ _ (instr_then h (to_draw (now h) o.0.0.draws.digit));
      soon = omega (arith, o.1, draw_most e (now h));
      some = omega (arith, o.1);
      exact = o.1 ∙ sym (draw_wait e h o.0.0.draws.digit);
    }

-- ---- behind the wait

module _ (e : Edition) where
  -- of a block behind the wait the head says how long ago it was
  clear_then : (g h : Since) → h.state ≡ g.state → Clears (now g) → wait_time e h.state ≡ 102
  clear_then g h same is = clear_wait e h.state (ap instr_at same ∙ instr_then g (to_clear (now g) is))

  draw_then : (g h : Since) → h.state ≡ g.state → high_byte (now g) / 16 ≡ 13 → wait_time e h.state ≡ draw_time e (now g)
  draw_then g h same is = ap (wait_time e) same ∙ draw_wait e g is

  head_few : (l : SpriteBlock) → IsWaited l → (c : Machine) (g h : Since) (j : ℕ) → h.state ≡ g.state → j < moves (OfSprite l)
      → Head (vip e) (OfSprite l) c g → g.spent + 2 * j ≤ wait_time e h.state + most_changing
  head_few (Wipe k) w c g h j same i o = omega (arith, o.1.0, i, few_rows e, clear_then g h same o.0.0.clears)
  head_few (Wipe3 k) w c g h j same i o = omega (arith, o.1.0, i, few_rows e, clear_then g h same o.0.0.clears)
  head_few (Wipe6 k) w c g h j same i o = omega (arith, o.1.0, i, few_rows e, clear_then g h same o.0.0.clears)
  head_few (Wiped k) w c g h j same i o = omega (arith, o.1.0, i, few_rows e, clear_then g h same o.0.0.clears)
  head_few Cleared w c g h j same i o = omega (arith, o.1.0, i, few_rows e, clear_then g h same o.0.1)
  head_few (Line r) w c g h j same i o = omega (arith, o.1.0, i, o.0.1, few e (now g), draw_then g h same o.0.0.draws.digit)
  head_few (LineLeft r) w c g h j same i o = omega (arith, o.1.0, i, o.0.1, few e (now g), draw_then g h same o.0.0.draws.digit)
  head_few (LineRight r) w c g h j same i o = omega (arith, o.1.0, i, o.0.1, few e (now g), draw_then g h same o.0.0.draws.digit)
  head_few Drawn w c g h j same i o = omega (arith, o.1.0, i, few e (now g), draw_then g h same o.0.draws.digit)
  head_few _ w c g h j same i o = absurd w

  row_few : (b : Machine) (h : Since) → Row (vip e) (waited_pieces (vip e)) b h → h.spent ≤ wait_time e h.state + most_changing
  row_few b h (Inside l r) = omega (arith, head_few l.0 l.1 r.start r.since h r.k r.grows.state r.inside r.head, r.grows.spent)
  row_few b h (Alone l o) = absurd o

  pub woken_few : (b : Machine) (h : Since) → Woken e b h → h.spent ≤ wait_time e h.state + most_changing
  woken_few b h w = row_few b h w.row

  -- and that the state doesn't stop
  head_goes : (l : SpriteBlock) → IsWaited l → (c : Machine) (g : Since) → Head (vip e) (OfSprite l) c g → stop_of e (now g) ≡ None
  head_goes (Wipe k) w c g o = rw (o.0.0.inside, o.0.0.clears.0, o.0.0.clears.1) refl
  head_goes (Wipe3 k) w c g o = rw (o.0.0.inside, o.0.0.clears.0, o.0.0.clears.1) refl
  head_goes (Wipe6 k) w c g o = rw (o.0.0.inside, o.0.0.clears.0, o.0.0.clears.1) refl
  head_goes (Wiped k) w c g o = rw (o.0.0.inside, o.0.0.clears.0, o.0.0.clears.1) refl
  head_goes Cleared w c g o = rw (o.0.0.inside, o.0.1.0, o.0.1.1) refl
  head_goes (Line r) w c g o = rw (o.0.0.draws.inside, o.0.0.draws.digit, o.0.0.draws.readable) refl
  head_goes (LineLeft r) w c g o = rw (o.0.0.draws.inside, o.0.0.draws.digit, o.0.0.draws.readable) refl
  head_goes (LineRight r) w c g o = rw (o.0.0.draws.inside, o.0.0.draws.digit, o.0.0.draws.readable) refl
  head_goes Drawn w c g o = rw (o.0.draws.inside, o.0.draws.digit, o.0.draws.readable) refl
  head_goes _ w c g o = absurd w

  pub row_goes : (b : Machine) (h : Since) → Row (vip e) (waited_pieces (vip e)) b h → stop_of e h.state ≡ None
  row_goes b h (Inside l r) = ap (stop_of e) r.grows.state ∙ sym (stop_ticks e r.since.ticks r.since.state) ∙ head_goes l.0 l.1 r.start r.since r.head
  row_goes b h (Alone l o) = absurd o

  -- so it isn't interrupted there, nor after a main move more
  pub woken_apart : (b : Machine) (h : Since) (n : ℕ) → n ≤ 2 → Woken e b h → place (b.cycle + n) ≡ interrupt_place → ⊥
  woken_apart b h n l w i = apart b.cycle n (wait_time e h.state) w.woke h.spent l w.return w.since w.least (woken_few b h w) i
    where
      apart : (cycle n base woke late : ℕ) → n ≤ 2 → place woke ≡ interrupt_place + routine_cycles → cycle + base ≡ woke + late → base ≤ late
          → late ≤ base + most_changing → place (cycle + n) ≡ interrupt_place → ⊥
      apart cycle n base woke late l r s m k i = omega (arith, l, r, s, m, k, i)

  -- where a main move comes to no event, it comes to a row behind the wait
  pub calm_row : (c : Machine) (h : Since) → is_event (code (vip e)) c ≡ false → Outcome (vip e) (waited_pieces (vip e)) c h
      → Row (vip e) (waited_pieces (vip e)) c h
  calm_row c h calm (Still k r) = r
  calm_row c h calm (Dispatched s st makes) = absurd (sleeps (sym (dispatch_by (vip e) c s st.stands) ∙ (neither _ _ calm).0))
  calm_row c h calm (Halted stop st) = absurd (sleeps (sym (halt_by (vip e) c (now h) stop st.halts) ∙ (neither _ _ calm).1))

  -- in the cycle of the interrupt that ends the wait, the routine will return where the language's time says, and so many ticks have come
  abbrev WokenThen : Since → ℕ → Type 0
  WokenThen h m =
      (interrupt_at m + routine_cycles ≡ woken (ended h.from (wait_time e h.state))) × (interrupts h.from (wait_time e h.state - 1) ≡ h.ticks)

  pub woken_then : (script : List Event) (b : Machine) (h : Since) (m : ℕ) → Interval e script b h → b.regs.idle ≡ true → Waits e h → Timed e b h
      → b.cycle ≡ interrupt_at m → WokenThen h m
  woken_then script b h m t i w time at = go time
    where
      from_wait : (n : ℕ) → Spends b h n → n ≤ since_window b.cycle → (h.ticks ≡ 0) ⊎ (n + 2 ≤ since_return b.cycle) → WokenThen h m
      from_wait n s l moved =
          subst (λ k. (interrupt_at m + routine_cycles ≡ woken (ended h.from k)) × (interrupts h.from (k - 1) ≡ h.ticks)) w.exact
          (woken_is h.from h.spent h.ticks n m t.starts.outside t.begun (t.covers.ticks ∙ ap (ticks_between h.from) at) (omega (arith, s, at)) w.some
          (subst (λ c. n ≤ since_window c) at l) (subst (λ c. (h.ticks ≡ 0) ⊎ (n + 2 ≤ since_return c)) at moved))

      at_once : (h.ticks ≡ 0) ⊎ IsBehind b → (h.ticks ≡ 0) ⊎ (0 + 2 ≤ since_return b.cycle)
      at_once (inl z) = inl z
      at_once (inr k) = inr (k.moved i)

      go : Timed e b h → WokenThen h m
      go (Before s r) = from_wait 0 s (omega arith) (at_once t.behind)
      go (Waiting n s l idle r) = from_wait n s l.most l.moved
      go (Behind n s l r o) = absurd (sleeps (sym i ∙ waited_awake e b h r))

  -- the interrupt routine has returned
  pub wakes : (c : Machine) (h : Since) (m : ℕ) (t : Waits e h) → Row (vip e) (waited_pieces (vip e)) c (after_tick h)
      → c.cycle ≡ interrupt_at m + routine_cycles → WokenThen h m → Woken e c (after_tick h)
  wakes c h m t row at exact =
      record {
        woke = c.cycle;
        return = omega (arith, at);
        exact = at ∙ exact.0;
        ticks = omega (arith, exact.1);
        most = t.most;
        waits = t.waits;
        since = omega (arith, t.exact);
        least = omega (arith, t.exact);
        row = row;
      }

  -- ---- the dispatch behind the wait

  -- it comes in its cycle: c, two cycles behind b
  module _ (b : Machine) (h : Since) (w : Woken e b h) (c : ℕ) (next : c ≡ b.cycle + 2) (key : KeyInput)
      (time : (n : ℕ) → takes_by e (instr_at h.state) h.state key ≡ Some n → h.spent + 2 ≡ n) where
    abbrev behind : ℕ
    behind = behind_wait e (instr_at h.state) h.state

    spends_behind : h.spent + 2 ≡ wait_time e h.state + behind
    spends_behind = time _ (waits_take e h.state key w.waits)

    pub waited_at : c ≡ due_behind e (instr_at h.state) h.from h.state
    waited_at =
        omega (arith, next, w.since, w.least, spends_behind)
        ∙ sym (later_soon w.woke behind w.return (omega (arith, spends_behind, woken_few b h w)))
        ∙ ap (λ t. later t behind) w.exact
