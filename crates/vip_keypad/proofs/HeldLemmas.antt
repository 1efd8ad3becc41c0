-- The script that holds a set of keys down does so in each cycle.
use Rattle.std.proofs.Common.{◌≡◌, ℕ, zero, suc, ◌<◌, ◌-◌, Bool, true, false, cond, [], ◌∷◌, length, ap, arith}
use Rattle.std.specs.Prelude.{nat_le, slice_get}
use Rattle.std.specs.Option.{option_map_or}
use Rattle.std.proofs.lemmas.Bool.Decides.{nat_tests}
use Rattle.machine.specs.Keys.{held_at}
use Rattle.vip_keypad.specs.KeySet.{has_key}
use Rattle.vip_keypad.specs.Held.{event_at_0, held_events}

first : (t : ℕ) → nat_le 0 t ≡ true
first t = grind (arith, nat_tests)

-- whether key k is down by its one event, if that one has come
abbrev picked : ℕ → ℕ → Bool → Bool
picked keys k come =
    let past = cond come (event_at_0 keys k ∷ []) [] in
    option_map_or (λ e. e.down) (slice_get past (length past - 1)) false

pub held-key : (keys t k : ℕ) → k < 16 → held_at (held_events keys) t k ≡ has_key keys k
unfolding held_events
held-key keys t zero h = ap (picked keys 0) (first t)
held-key keys t (suc zero) h = ap (picked keys 1) (first t)
held-key keys t (suc (suc zero)) h = ap (picked keys 2) (first t)
held-key keys t (suc (suc (suc zero))) h = ap (picked keys 3) (first t)
held-key keys t (suc (suc (suc (suc zero)))) h = ap (picked keys 4) (first t)
held-key keys t (suc (suc (suc (suc (suc zero))))) h = ap (picked keys 5) (first t)
held-key keys t (suc (suc (suc (suc (suc (suc zero)))))) h = ap (picked keys 6) (first t)
held-key keys t (suc (suc (suc (suc (suc (suc (suc zero))))))) h = ap (picked keys 7) (first t)
held-key keys t (suc (suc (suc (suc (suc (suc (suc (suc zero)))))))) h = ap (picked keys 8) (first t)
held-key keys t (suc (suc (suc (suc (suc (suc (suc (suc (suc zero))))))))) h = ap (picked keys 9) (first t)
held-key keys t (suc (suc (suc (suc (suc (suc (suc (suc (suc (suc zero)))))))))) h = ap (picked keys 10) (first t)
held-key keys t (suc (suc (suc (suc (suc (suc (suc (suc (suc (suc (suc zero))))))))))) h = ap (picked keys 11) (first t)
held-key keys t (suc (suc (suc (suc (suc (suc (suc (suc (suc (suc (suc (suc zero)))))))))))) h = ap (picked keys 12) (first t)
held-key keys t (suc (suc (suc (suc (suc (suc (suc (suc (suc (suc (suc (suc (suc zero))))))))))))) h = ap (picked keys 13) (first t)
held-key keys t (suc (suc (suc (suc (suc (suc (suc (suc (suc (suc (suc (suc (suc (suc zero)))))))))))))) h = ap (picked keys 14) (first t)
held-key keys t (suc (suc (suc (suc (suc (suc (suc (suc (suc (suc (suc (suc (suc (suc (suc zero))))))))))))))) h = ap (picked keys 15) (first t)
held-key keys t (suc (suc (suc (suc (suc (suc (suc (suc (suc (suc (suc (suc (suc (suc (suc (suc k)))))))))))))))) h = absurd (omega (arith, h))
