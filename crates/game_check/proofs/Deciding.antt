-- The least family decides whether a game has a certificate.
use Rattle.std.proofs.Common.{◌≡◌, ◌≤◌, ◌<◌, ℕ, ◌+◌, ◌-◌, ◌*◌, Bool, true, false, leb, List, [], ◌∷◌, length, get_or, Some, None, sym, ap, subst, ◌∙◌, arith}
use Rattle.std.specs.List.{All, sum_by}
use Rattle.std.proofs.lemmas.List.{get_or_default}
use Rattle.chip8_lang.specs.declared.view.Edition.{Edition}
use Rattle.game_check.specs.declared.claim.Claim.{Claim}
use Rattle.game_check.specs.declared.fault.OpenClaim.{OpenClaim}
use Rattle.game_check.specs.declared.fault.ProofCause.{ProofCause}
use Rattle.game_check.specs.Proof.{IsAccepted}
use Rattle.game_check.specs.Closed.{cause_in}
use Rattle.game_check.specs.Grammar.{claims_of}
use Rattle.game_check.specs.Least.{HasNone, IsClosed, IsFound, IsOpen, IsTold, IsTooLong, family_text, line_bytes, most_bytes}
use Rattle.game_check.specs.Searching.{AreMet, AreWords, HasGrown, HasMet, IsProper, IsSettled, IsWritable, weight, weights}
use Rattle.game_check.specs.declared.least.Family.{Family}
use Rattle.std.proofs.lemmas.Bool.{leb-true}
use Rattle.std.proofs.lemmas.List.Sums.{sum_by-cons}
use Rattle.std.proofs.lemmas.List.Elements.{All-head, All-tail}
use Rattle.game_check.proofs.Accepted.{accepted_bytes, accepted_closed, proof}
use Rattle.game_check.proofs.Smallest.{covering_bytes, keeps_below, rules_kept}
use Rattle.game_check.proofs.Written.{written_accepted, written_length}

module _ (e : Edition) (game : List ℕ) where
  -- the lines of what is met have no more bytes than those of a closed family
  pub too_long : (claims : List Claim) → AreMet e game claims → most_bytes < sum_by line_bytes claims → IsTooLong e game
  too_long claims are long family closed =
      let fewer = covering_bytes family claims closed.in_order are.in_order (λ k c within. are.met k c within family closed) in
      omega (arith, fewer, long)

  -- a round in which nothing grew
  pub settles : (old new : Family) (grew : Bool) → HasGrown old new grew → grew ≡ false → old.edition ≡ e → old.game.now ≡ game → HasMet old
      → IsClosed old.edition old.game.now old.claims.items → leb (sum_by line_bytes old.claims.items) most_bytes ≡ true → IsSettled e game new.claims.items
  settles old new grew grown stays edition of_game are closed fits =
      let same = grown.same stays in
      let is_closed : IsClosed e game old.claims.items = rw (edition, of_game) at closed in
      let known : AreMet e game old.claims.items = rw (edition, of_game) at are in
      rw same (record {
        least = record { closed = is_closed; least = known.met };
        proper = known.proper;
        fits = leb-true (sum_by line_bytes old.claims.items) most_bytes fits;
      })

  pub none_long : IsTooLong e game → HasNone e game
  none_long long text fits accepted =
      let more = long (claims_of text) (accepted_closed e game text accepted) in
      let few = accepted_bytes text fits in
      absurd (omega (arith, more, few))

  module _ (family : List Claim) (settled : IsSettled e game family) where
    -- where a certificate is accepted, each rule holds of the least family
    pub rules_hold : (text : List ℕ) → IsAccepted e game text → All (λ c. cause_in e game family c ≡ None) family
    rules_hold text accepted =
        rules_kept e game family (claims_of text) settled.least settled.proper (accepted_closed e game text accepted) (proof e game text accepted).closed

    pub no_text : (k : ℕ) (c : Claim) (cause : ProofCause) → k < length family → ((d : Claim) → get_or family k d ≡ c) → cause_in e game family c ≡ Some cause
        → HasNone e game
    no_text k c cause within here why text fits accepted =
        absurd (some_none (sym why ∙ ap (cause_in e game family) (sym (here c)) ∙ rules_hold text accepted k c within))
      where
        some_none : Some cause ≡ None → ⊥
        some_none h = cc

    -- the first claim against which there is a cause
    pub open_why : (o : OpenClaim) (k : ℕ) (c : Claim) (cause : ProofCause) → k < length family → c ≡ get_or family k c → Some cause ≡ cause_in e game family c
        → ((j : ℕ) (d : Claim) → j < k → cause_in e game family (get_or family j d) ≡ None) → o.cause ≡ cause → IsTold e game c o
        → IsOpen e game o × HasNone e game
    open_why o k c cause within there known before why told =
        let here : (d : Claim) → get_or family k d ≡ c = λ d. get_or_default family k d c within ∙ sym there in (
          record {
            family = family;
            least = settled.least;
            fits = settled.fits;
            place = k;
            claim = c;
            within = within;
            here = here;
            told = told;
            cause = sym known ∙ ap Some (sym why);
            first = λ j d less. before j d less;
          },
          no_text k c cause within here (sym known),
        )

    module _ (rules : All (λ c. cause_in e game family c ≡ None) family) where
      pub writable : All IsWritable family
      writable k c within = record { rises = (settled.proper k c within).rises; high = keeps_below e game family settled.least rules k c within }

      pub found_text : (text : List ℕ) → text ≡ family_text family → All AreWords family → IsFound e game text
      found_text text is words = record {
        family = family;
        least = settled.least;
        around = λ other whole k c within. settled.least.least k c within (claims_of other) (accepted_closed e game other whole);
        is = is;
        accepted =
            subst (IsAccepted e game) (sym is)
            (written_accepted e game family settled.least.closed.in_order settled.least.closed.start words writable rules);
        fits = omega (arith, settled.fits, written_length family, ap length is);
      }

-- ---- an end

weights_small : (claims : List Claim) → All IsProper claims → weights claims ≤ 0x20000 * sum_by line_bytes claims
weights_small [] all = omega arith
weights_small (c ∷ claims) all =
    let here = All-head IsProper c claims all in
    let rest = weights_small claims (All-tail IsProper c claims all) in
    let high = here.high in
    omega (arith, rest, high, sum_by-cons weight c claims, sum_by-cons line_bytes c claims)

pub less_left : (old new : Family) (grew : Bool) → HasGrown old new grew → grew ≡ true → HasMet old → leb (sum_by line_bytes old.claims.items) most_bytes ≡ true
    → 0x20000 * most_bytes + 1 - weights new.claims.items < 0x20000 * most_bytes + 1 - weights old.claims.items
less_left old new grew grown up are fits =
    let more = grown.more up in
    let few = leb-true (sum_by line_bytes old.claims.items) most_bytes fits in
    let small = weights_small old.claims.items are.proper in
    omega (arith, more, few, small)
