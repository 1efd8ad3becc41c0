-- Which part of the ROM an address lies in, for both editions.
use Rattle.std.specs.Prelude.{◌≡◌, ℕ, zero, suc, ◌+◌, ◌-◌, Bool, true, false, ◌&&◌, if◌then◌else◌, nat_le, nat_lt, List, [], ◌∷◌, ◌++◌}
use Rattle.std.specs.List.{filter}
use Rattle.chip8_image.specs.declared.map.Area.{Area}
use Rattle.chip8_image.specs.declared.map.TheConstants.{AREAS}
use Rattle.chip8_image.specs.declared.parts.Part.{Part}
use Rattle.chip8_image.specs.declared.parts.Part.TheVariants.{Fetch, Arith, Memory, Sprite, Timer, Keys, Other}

-- the address lies in the area
abbrev pub holds : ℕ → Area → Bool
holds address a = nat_le a.first address && nat_le address a.last

-- the part of the first of these areas in which the address lies, and else Other
abbrev pub part_among : List Area → ℕ → Part
part_among [] address = Other
part_among (a ∷ areas) address = if holds address a then a.part else part_among areas address

abbrev pub part_of : ℕ → Part
part_of address = part_among AREAS address

-- ---- the areas of a part

abbrev pub is_part : Part → Part → Bool
is_part Fetch Fetch = true
is_part Arith Arith = true
is_part Memory Memory = true
is_part Sprite Sprite = true
is_part Timer Timer = true
is_part Keys Keys = true
is_part Other Other = true
is_part _ _ = false

abbrev pub areas_of : Part → List Area
areas_of p = filter (λ a. is_part p a.part) AREAS

-- ---- the addresses of areas

-- so many addresses from this one on
abbrev pub addresses_from : ℕ → ℕ → List ℕ
addresses_from address zero = []
addresses_from address (suc n) = address ∷ addresses_from (address + 1) n

abbrev pub addresses_of : List Area → List ℕ
addresses_of [] = []
addresses_of (a ∷ areas) = addresses_from a.first (a.last + 1 - a.first) ++ addresses_of areas

-- each number is less than the next
abbrev pub ascends : List ℕ → Bool
ascends [] = true
ascends (a ∷ []) = true
ascends (a ∷ (b ∷ l)) = nat_lt a b && ascends (b ∷ l)

abbrev pub MapInOrder : Type 0
MapInOrder = ascends (addresses_of AREAS) ≡ true
