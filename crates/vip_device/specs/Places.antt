-- Where a run stops.
use Rattle.std.specs.Prelude.{◌≡◌, ◌⊎◌, ℕ}
use Rattle.vip_device.specs.declared.device.VipPlace.{VipPlace}
use Rattle.vip_device.specs.declared.places.Places.{Places}

-- an instruction at an address, which runs with this P, is at a place
abbrev pub IsAt : VipPlace → ℕ → ℕ → Type 0
IsAt place address p = (place.address ≡ address) × ((place.p ≡ p) ⊎ (place.p ≡ 0xFF))

-- it is at one of eight
abbrev pub AreAt : Places → ℕ → ℕ → Type 0
AreAt s address p =
    IsAt s.first address p
    ⊎ (IsAt s.second address p
    ⊎ (IsAt s.third address p
    ⊎ (IsAt s.fourth address p
    ⊎ (IsAt s.fifth address p ⊎ (IsAt s.sixth address p ⊎ (IsAt s.seventh address p ⊎ IsAt s.eighth address p))))))
