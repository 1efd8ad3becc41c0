-- The board runs past pictures to the next dispatch point, and on to one that is looked for.
use Rattle.std.proofs.Common.{◌≡◌, ◌⊎◌, inl, inr, ℕ, zero, suc, ◌+◌, ◌≤◌, Bool, true, false, List, [], ◌∷◌, ◌++◌, length, drop, refl, sym, ap, ◌∙◌, subst, arith, Some, None, add-one}
use Rattle.std.specs.Prelude.{filter_map, find, slice_get}
use Rattle.machine.specs.Board.{Machine}
use Rattle.chip8_lang.specs.declared.view.StopRecord.{StopRecord}
use Rattle.chip8_lang.specs.Events.Event.{Dispatch}
use Rattle.chip8_lang.specs.View.{view_at}
use Rattle.vip_relation.specs.State.{VipState, events_to, events_left, run_of, moves_by}
use Rattle.vip_relation.specs.Follows.{Follows, dispatch_of}
use Rattle.vip_relation.specs.Meets.{IsSame, MeetsNext, HasStopped, StopsAgain}
use Rattle.vip_relation.specs.declared.run.Met.TheVariants as met
use Rattle.vip_relation.proofs.Steps.{Others, others-to}
use Rattle.vip_relation.proofs.Waits.{none-behind-dispatch}
use Rattle.vip_relation.proofs.Nexts.{Dispatched, Pictured, Halted, Ended, at_stop}
use Rattle.vip_debug.specs.Answers.{begun, moves_until, has_pc}
use Rattle.vip_debug.specs.Parts.{points_left, Passes, PassesNone, PassAnswers, FindAnswers}
use Rattle.vip_debug.proofs.Places.{same-trans, made-most, made-few, made-all, all-within, some-run, none-left-stays, events-same, until-same, begun-same, decided}

-- ---- what an answer says of whether a stop was met before

pub dispatch-runs : (v v' : VipState) → (HasStopped v → StopsAgain v v' met.Dispatch) → HasStopped v → ⊥
dispatch-runs v v' again h = let e = (again h).stop in cc

pub picture-runs : (v v' : VipState) → (HasStopped v → StopsAgain v v' met.Picture) → HasStopped v → ⊥
picture-runs v v' again h = let e = (again h).stop in cc

pub end-runs : (v v' : VipState) → (HasStopped v → StopsAgain v v' met.End) → HasStopped v → ⊥
end-runs v v' again h = let e = (again h).stop in cc

-- ---- to the next one

-- of the dispatch points that aren't met none is passed
pub record Passing (limit : ℕ) (old v : VipState) : Type 0 where
  pub begins : Follows old
  pub follows : Follows v
  pub same : IsSame old v
  pub points : points_left old limit ≡ points_left v limit
  pub within : v.board.machine.cycle ≤ limit

-- nothing is left behind a stop
nothing_left : (limit : ℕ) (v : VipState) → Follows v → v.board.machine.cycle ≤ limit → HasStopped v → events_left v limit ≡ []
nothing_left limit v f within h =
    let o : Others v f limit = others-to v f limit within in
    o.left ∙ ap (λ es. es ++ o.others) h.met ∙ o.stop h.stop

module _ (limit : ℕ) (old v v' : VipState) (s : Passing limit old v) (f : Follows v') where
  pub passing-picture : Pictured limit v v' (events_left v limit) → Passing limit old v'
  passing-picture d =
      record {
        begins = s.begins;
        follows = f;
        same = same-trans old v v' s.same d.meets.one.same;
        points = s.points ∙ ap (filter_map dispatch_of) d.split ∙ ap (filter_map dispatch_of) (sym d.meets.one.left);
        within = d.meets.one.within;
      }

  pub passed : Dispatched limit v v' (events_left v limit) → Passes limit old v'
  passed d =
      record {
        same = same-trans old v v' s.same d.meets.one.same;
        first =
            s.points ∙ ap (filter_map dispatch_of) d.split ∙ ap (λ b. b ∷ filter_map dispatch_of d.rest) (sym d.meets.machine)
            ∙ ap (λ es. v'.board.machine ∷ filter_map dispatch_of es) (sym d.meets.one.left);
        met =
            none-behind-dispatch v' f limit v.met d.rest d.meets.one.within d.meets.one.met
            (ap (drop v.met) (events-same v v' s.follows f d.meets.one.same limit) ∙ d.split ∙ ap (λ b. Dispatch b ∷ d.rest) (sym d.meets.machine));
        told =
            d.meets.last ∙ ap (λ b. Some (view_at v.edition b)) (sym d.meets.machine)
            ∙ ap (λ e. Some (view_at e v'.board.machine)) (sym d.meets.one.same.edition);
        within = d.meets.one.within;
      }

  until_old : IsSame old v' → moves_until (begun v') limit ≡ moves_until (begun old) limit
  until_old same = until-same old v' s.begins f same limit

  passed_again : HasStopped v → v' ≡ v → PassesNone limit old v'
  passed_again h same =
      subst (PassesNone limit old) (sym same)
      (record {
        same = s.same;
        none = s.points ∙ ap (filter_map dispatch_of) (nothing_left limit v s.follows s.within h);
        made = made-all v s.follows limit s.within (inl h.stop) ∙ until-same old v s.begins s.follows s.same limit;
        met = h.met;
        within = s.within;
      })

  passed_stop : (stop : StopRecord) → Halted limit v v' (events_left v limit) stop → PassesNone limit old v'
  passed_stop stop d =
      let same : IsSame old v' = same-trans old v v' s.same d.meets.one.same in
      record {
        same = same;
        none =
            s.points ∙ ap (filter_map dispatch_of) d.split ∙ ap (filter_map dispatch_of)
            (sym d.meets.one.left ∙ nothing_left limit v' f d.meets.one.within d.meets.stopped);
        made = made-all v' f limit d.meets.one.within (inl d.meets.stopped.stop) ∙ until_old same;
        met = d.meets.stopped.met;
        within = d.meets.one.within;
      }

  pub passed-at-stop : (stop : StopRecord) → (HasStopped v → StopsAgain v v' (met.Stopped stop))
      → ((HasStopped v → ⊥) → MeetsNext limit v v' (events_left v limit) (met.Stopped stop)) → PassesNone limit old v'
  passed-at-stop stop again next = by_case (decided v)
    where
      by_case : HasStopped v ⊎ (HasStopped v → ⊥) → PassesNone limit old v'
      by_case (inl h) = passed_again h (again h).same
      by_case (inr h) = passed_stop stop (at_stop limit v v' (events_left v limit) stop (next h))

  pub passed-end : Ended limit v v' (events_left v limit) → PassesNone limit old v'
  passed-end d =
      let same : IsSame old v' = same-trans old v v' s.same d.ends.same in
      let most : v.moves ≤ moves_until (begun v) limit = made-most v s.follows limit s.within in
      let few : moves_until (begun v) limit ≤ moves_by v limit = made-few v s.follows limit in
      let runs : run_of v' limit ≡ run_of v limit = ap (λ (x : VipState). run_of x limit) (begun-same v v' d.ends.same) in
      let all : v'.moves ≡ moves_by v limit = omega (arith, d.ends.moves, most, few) in
      let within : v'.board.machine.cycle ≤ limit = all-within v' f limit (omega (arith, ap length runs, some-run v s.follows limit s.within))
      (omega (arith, all, ap length runs)) in
      let most' : v'.moves ≤ moves_until (begun v') limit = made-most v' f limit within in
      let few' : moves_until (begun v') limit ≤ moves_by v' limit = made-few v' f limit in
      record {
        same = same;
        none = s.points ∙ ap (filter_map dispatch_of) d.none;
        made = omega (arith, most', few', all, ap length runs, until_old same);
        met =
            none-left-stays v' f limit within
            (ap (λ n. drop n (events_to v' limit)) d.ends.met ∙ ap (drop v.met) (events-same v v' s.follows f d.ends.same limit) ∙ d.none);
        within = within;
      }

-- ---- to the n-th one

-- of the dispatch points some are passed
pub record PassingPoints (limit : ℕ) (old v : VipState) (passed : ℕ) : Type 0 where
  pub begins : Follows old
  pub follows : Follows v
  pub same : IsSame old v
  pub points : drop passed (points_left old limit) ≡ points_left v limit
  pub within : v.board.machine.cycle ≤ limit

drop_suc : (n : ℕ) (xs : List Machine) (b : Machine) (bs : List Machine) → drop n xs ≡ b ∷ bs → drop (suc n) xs ≡ bs
drop_suc zero [] b bs h = cc
drop_suc zero (x ∷ xs) b bs h = cc
drop_suc (suc n) [] b bs h = cc
drop_suc (suc n) (x ∷ xs) b bs h = drop_suc n xs b bs h

drop_get : (n : ℕ) (xs : List Machine) (b : Machine) (bs : List Machine) → drop n xs ≡ b ∷ bs → slice_get xs n ≡ Some b
drop_get zero [] b bs h = cc
drop_get zero (x ∷ xs) b bs h = cc
drop_get (suc n) [] b bs h = cc
drop_get (suc n) (x ∷ xs) b bs h = drop_get n xs b bs h

drop_none : (n k : ℕ) (xs : List Machine) → drop n xs ≡ [] → n ≤ k → slice_get xs k ≡ None
drop_none n k [] h within = refl
drop_none zero k (x ∷ xs) h within = cc
drop_none (suc n) zero (x ∷ xs) h within = absurd (omega (arith, within))
drop_none (suc n) (suc k) (x ∷ xs) h within = drop_none n k xs h (omega (arith, within))

module _ (limit : ℕ) (old v v' : VipState) (passed : ℕ) (s : PassingPoints limit old v passed) (f : Follows v') where
  pub points-next : Passes limit v v' → PassingPoints limit old v' (passed + 1)
  points-next p =
      record {
        begins = s.begins;
        follows = f;
        same = same-trans old v v' s.same p.same;
        points =
            ap (λ n. drop n (points_left old limit)) (add-one passed) ∙ drop_suc passed (points_left old limit) v'.board.machine (points_left v' limit)
            (s.points ∙ p.first);
        within = p.within;
      }

  pub found-none : (n : ℕ) → passed ≤ n → PassesNone limit v v' → FindAnswers limit old v' (slice_get (points_left old limit) n) false
  found-none n within p =
      rw (drop_none passed n (points_left old limit) (s.points ∙ p.none) within)
      (record { same = same-trans old v v' s.same p.same; made = p.made ∙ until-same old v s.begins s.follows s.same limit; met = p.met; within = p.within })

  pub found : Passes limit v v' → FindAnswers limit old v' (slice_get (points_left old limit) passed) true
  found p =
      rw (drop_get passed (points_left old limit) v'.board.machine (points_left v' limit) (s.points ∙ p.first))
      (record { same = same-trans old v v' s.same p.same; machine = refl; met = p.met; told = p.told; within = p.within })

  pub found-last : (answer : Bool) → PassAnswers limit v v' answer → FindAnswers limit old v' (slice_get (points_left old limit) passed) answer
  found-last true p = found p
  found-last false p = found-none passed (omega arith) p

-- ---- to one with this pc

pub record Looking (limit : ℕ) (pc : ℕ) (old v : VipState) : Type 0 where
  pub begins : Follows old
  pub follows : Follows v
  pub same : IsSame old v
  pub points : find (has_pc old pc) (points_left old limit) ≡ find (has_pc old pc) (points_left v limit)
  pub within : v.board.machine.cycle ≤ limit

find_first : (p : Machine → Bool) (b : Machine) (bs : List Machine) → p b ≡ true → find p (b ∷ bs) ≡ Some b
find_first p b bs h = rw h refl

module _ (limit pc : ℕ) (old v v' : VipState) (s : Looking limit pc old v) (f : Follows v') where
  pub looked-none : PassesNone limit v v' → FindAnswers limit old v' (find (has_pc old pc) (points_left old limit)) false
  looked-none p =
      rw (s.points ∙ ap (find (has_pc old pc)) p.none)
      (record { same = same-trans old v v' s.same p.same; made = p.made ∙ until-same old v s.begins s.follows s.same limit; met = p.met; within = p.within })
