-- A game with an accepted certificate never stops.
use Rattle.std.proofs.Common.{◌≡◌, ℕ, zero, suc, ◌+◌, ◌-◌, ◌<◌, ◌≤◌, true, ◌&&◌, leb, eqb, List, [], ◌∷◌, length, slice_index, slice_index_or, Some, None, refl, sym, ap, ap₂, subst, ◌∙◌, arith, inl, inr}
use Rattle.std.specs.List.{All, Any}
use Rattle.std.proofs.lemmas.Bool.{and_parts, cases_Bool, eqb-true, leb-true}
use Rattle.std.proofs.lemmas.List.{nil_from_length}
use Rattle.std.proofs.lemmas.List.Elements.{All-append, All-from_get_or, All-replicate}
use Rattle.std.proofs.lemmas.List.Folds.{Any-from_list_any}
use Rattle.machine.specs.Keys.{Keys}
use Rattle.chip8_lang.specs.declared.instr.Instr.{Instr}
use Rattle.chip8_lang.specs.declared.instr.Instr.TheVariants.{WaitKey}
use Rattle.chip8_lang.specs.declared.view.Edition.{Edition}
use Rattle.chip8_lang.specs.Between.{Allows, Between}
use Rattle.chip8_lang.specs.Decode.{instr_of_bytes}
use Rattle.chip8_lang.specs.Editions.{memory_start}
use Rattle.chip8_lang.specs.State.{Lang, first, instr_at, is_in_memory, memory_byte, memory_size}
use Rattle.chip8_lang.specs.Step.{KeyInput, chosen_key, step, stop_of}
use Rattle.chip8_lang.specs.Step.KeyInput.{Nothing, Held, Chosen}
use Rattle.chip8_lang.specs.Ticks.{tick, ticks}
use Rattle.game_check.specs.declared.claim.Claim.{Claim}
use Rattle.game_check.specs.Closed.{cause_by, cause_in, game_byte, goes_on, has_access, has_start, instr_in, is_allowed, is_start}
use Rattle.game_check.specs.Grammar.{claims_of}
use Rattle.game_check.specs.Laws.{CertifiedGames, EveryStep}
use Rattle.game_check.specs.States.{HasOpcode, IsByte, IsCertified, IsRunFrom, NeverStops, last_of}
use Rattle.game_check.proofs.Bytes.{byte_at, loaded, loaded_low, zeros_behind}
use Rattle.game_check.proofs.Faultless.{IsClosed, accepted_is}
use Rattle.game_check.proofs.Steps.{Goes, goes}

-- ---- what a closed claim says

pub record Parts (e : Edition) (game : List ℕ) (claims : List Claim) (c : Claim) : Type 0 where
  pub inside : is_in_memory e c.point.pc 2 ≡ true
  pub allowed : is_allowed (instr_in game c.point.pc) c.point.stack.items ≡ true
  pub access : has_access e claims (instr_in game c.point.pc) c ≡ true
  pub onward : goes_on claims (instr_in game c.point.pc) c ≡ true

module _ (e : Edition) (game : List ℕ) (claims : List Claim) where
  pub parts : (c : Claim) → IsClosed e game claims c → Parts e game claims c
  unfolding cause_in
  parts c closed = elim (cases_Bool (is_in_memory e c.point.pc 2)) [
    | inr outside ↦ absurd (not_none (rw outside at closed))
    | inl inside ↦ by inside (rw inside at closed)
  ]
    where
      not_none : {A : Type 0} {a : A} → Some a ≡ None → ⊥
      not_none h = cc

      i : Instr
      i = instr_in game c.point.pc

      by : is_in_memory e c.point.pc 2 ≡ true → cause_by e claims i c ≡ None → Parts e game claims c
      by inside closed = elim (cases_Bool (is_allowed i c.point.stack.items)) [
        | inr failed ↦ absurd (not_none (rw failed at closed))
        | inl allowed ↦ elim (cases_Bool (has_access e claims i c)) [
          | inr failed ↦ absurd (not_none (rw (allowed, failed) at closed))
          | inl access ↦ elim (cases_Bool (goes_on claims i c)) [
            | inr failed ↦ absurd (not_none (rw (allowed, access, failed) at closed))
            | inl onward ↦ record { inside = inside; allowed = allowed; access = access; onward = onward }
          ]
        ]
      ]

  -- ---- ticks

  tick_certified : (s : Lang) → IsCertified game claims s → IsCertified game claims (tick s)
  tick_certified s known = record {
    bytes = record { variables = known.bytes.variables; memory = known.bytes.memory; delay = omega (arith, known.bytes.delay) };
    stands =
        let here = known.stands in
        (here.0, here.1, here.2, here.3, record { pc = here.4.pc; stack = here.4.stack; low = here.4.low; high = here.4.high });
    code = λ k d within. record { high = (known.code k d within).high; low = (known.code k d within).low };
  }

  ticks_certified : (n : ℕ) (s : Lang) → IsCertified game claims s → IsCertified game claims (ticks n s)
  ticks_certified zero s known = known
  ticks_certified (suc n) s known = tick_certified (ticks n s) (ticks_certified n s known)

  -- ---- a step

  module _ (closed : All (IsClosed e game claims) claims) where
    placed : All (λ c. memory_start ≤ c.point.pc) claims
    placed k d within =
        let c = slice_index_or claims k d in
        leb-true memory_start c.point.pc (and_parts (leb memory_start c.point.pc) _ (parts c (closed k d within)).inside).0

    module _ (s : Lang) (known : IsCertified game claims s) where
      abbrev here : Claim
      here = known.stands.1

      there : slice_index_or claims known.stands.0 here ≡ here
      there = known.stands.3

      said : Parts e game claims here
      said = parts here (subst (IsClosed e game claims) there (closed known.stands.0 here known.stands.2))

      code : HasOpcode game s here
      code = subst (HasOpcode game s) there (known.code known.stands.0 here known.stands.2)

      -- the instruction at pc is that of the claim
      instr : instr_at s ≡ instr_in game here.point.pc
      unfolding instr_in
      instr = ap₂ instr_of_bytes (ap (memory_byte s) known.stands.4.pc ∙ code.high) (ap (λ a. memory_byte s (a + 1)) known.stands.4.pc ∙ code.low)

      operand : IsByte (loaded (instr_at s))
      operand =
          let low = loaded_low (memory_byte s s.pc) (memory_byte s (s.pc + 1)) in
          let byte = byte_at s.memory (s.pc + 1 - memory_start) known.bytes.memory in
          omega (arith, low, byte)

      goes_here : (key : KeyInput) → ((x : ℕ) → instr_at s ≡ WaitKey x → IsByte (chosen_key key)) → Goes e claims (instr_at s) s (step e key s)
      goes_here key taken =
          goes e claims placed here s known.stands.4 known.bytes (instr_at s) key taken operand (rw instr said.allowed) (rw instr said.access)
          (rw instr said.onward)

      certified_next : (key : KeyInput) → ((x : ℕ) → instr_at s ≡ WaitKey x → IsByte (chosen_key key)) → IsCertified game claims (step e key s)
      certified_next key taken =
          let gone = goes_here key taken in
          record {
            bytes = gone.bytes;
            stands = gone.stands;
            code = λ k d within. record {
              high = (gone.code k d within).high ∙ (known.code k d within).high;
              low = (gone.code k d within).low ∙ (known.code k d within).low;
            };
          }

      -- no stop fits the state, whatever is pressed
      runs_on : stop_of e s ≡ None
      runs_on =
          let fetched : is_in_memory e s.pc 2 ≡ true = rw known.stands.4.pc said.inside in
          rw fetched (goes_here Nothing (λ x is. omega arith)).runs

    -- what FX0A takes is a key
    key_byte : (key : KeyInput) (x : ℕ) (s : Lang) (sets : List Keys) → Allows (WaitKey x) s sets key → IsByte (chosen_key key)
    key_byte Nothing x s sets allowed = absurd allowed
    key_byte (Held down) x s sets allowed = absurd allowed
    key_byte (Chosen k) x s sets allowed = omega (arith, allowed.fits)

    -- ticks leave the instruction at pc
    instr_later : (n : ℕ) (s : Lang) → instr_at (ticks n s) ≡ instr_at s
    instr_later zero s = refl
    instr_later (suc n) s = instr_later n s

    between_certified : (s : Lang) → IsCertified game claims s → (n : ℕ) (sets : List Keys) (s' : Lang) → Between e s n sets s' → IsCertified game claims s'
    between_certified s known n sets s' b =
        let early = ticks_certified b.before s known in
        let taken : (x : ℕ) → instr_at (ticks b.before s) ≡ WaitKey x → IsByte (chosen_key b.key) =
        λ x is. key_byte b.key x s sets (subst (λ i. Allows i s sets b.key) (sym (instr_later b.before s) ∙ is) b.allowed) in
        subst (IsCertified game claims) (sym b.is) (ticks_certified b.after _ (certified_next (ticks b.before s) early b.key taken))

    -- ---- runs

    run_certified : (s : Lang) (states : List Lang) → IsCertified game claims s → IsRunFrom e s states → IsCertified game claims (last_of s states)
    run_certified s [] known run = known
    run_certified s (s' ∷ states) known run =
        run_certified s' states (between_certified s known run.0.ticks run.0.sets s' run.0.between) run.1

  -- ---- the first state

  game_at : (a : ℕ) → memory_byte (first e game) a ≡ game_byte game a
  game_at a = zeros_behind game (memory_size e - length game) (a - memory_start)

  first_certified : ((k : ℕ) → slice_index game k < 256) → has_start claims ≡ true → IsCertified game claims (first e game)
  unfolding has_start
  first_certified bytes start = record {
    bytes = record {
      variables = All-replicate IsByte 16 0 (omega arith);
      memory =
          All-append IsByte game _ (All-from_get_or IsByte game 0 (λ i within. bytes i)) (All-replicate IsByte (memory_size e - length game) 0 (omega arith));
      delay = omega arith;
    };
    stands = (
      found.0,
      found.1,
      found.2,
      found.3,
      record {
        pc = sym (eqb-true found.1.point.pc memory_start sides.0);
        stack = sym (nil_from_length found.1.point.stack.items (omega (arith, empty)));
        low = omega (arith, zero_low);
        high = omega arith;
      },
    );
    code = λ k d within. record { high = game_at _; low = game_at _ };
  }
    where
      found : Any (λ c. is_start c ≡ true) claims
      found = Any-from_list_any is_start claims start

      sides : (eqb found.1.point.pc memory_start ≡ true) × ((eqb (length found.1.point.stack.items) 0 && eqb found.1.low 0) ≡ true)
      sides = and_parts (eqb found.1.point.pc memory_start) (eqb (length found.1.point.stack.items) 0 && eqb found.1.low 0) found.4

      empty : length found.1.point.stack.items ≡ 0
      empty = eqb-true (length found.1.point.stack.items) 0 (and_parts (eqb (length found.1.point.stack.items) 0) (eqb found.1.low 0) sides.1).0

      zero_low : found.1.low ≡ 0
      zero_low = eqb-true found.1.low 0 (and_parts (eqb (length found.1.point.stack.items) 0) (eqb found.1.low 0) sides.1).1

-- ---- the laws

pub every_step : EveryStep
every_step e game text accepted s known =
    let proof = accepted_is e game text accepted in
    record {
      runs = runs_on e game (claims_of text) proof.closed s known;
      next = between_certified e game (claims_of text) proof.closed s known;
    }

-- a game of bytes with closed claims, one of which is of the start, never stops
pub closed_games :
    (e : Edition) (game : List ℕ) (claims : List Claim)
    → ((k : ℕ) → slice_index game k < 256)
    → All (IsClosed e game claims) claims
    → has_start claims ≡ true
    → NeverStops e game
closed_games e game claims bytes closed start states run =
    runs_on e game claims closed _ (run_certified e game claims closed (first e game) states (first_certified e game claims bytes start) run)

pub certified_games : CertifiedGames
certified_games e game text bytes accepted =
    let proof = accepted_is e game text accepted in
    closed_games e game (claims_of text) bytes proof.closed proof.start
