-- The search of the areas, one after the other.
use Rattle.std.proofs.Common.{◌≡◌, ℕ, ◌+◌, ◌<◌, ◌∙◌, sym, ap, true, false, if◌then◌else◌, List, drop, length}
use Rattle.std.proofs.Math.ListN.{get_or}
use Rattle.std.proofs.lemmas.List.{at_drop_more}
use Rattle.chip8_image.specs.declared.map.Area.{Area}
use Rattle.chip8_image.specs.Parts.{holds, part_among}

module _ (areas : List Area) (i address : ℕ) (d : Area) (m : i < length areas) where
  next : part_among (drop i areas) address ≡ (if holds address (get_or areas i d) then (get_or areas i d).part else part_among (drop (i + 1) areas) address)
  next = at_drop_more (λ l. part_among l address) areas i d m

  -- an area that doesn't hold the address is passed
  pub passed : holds address (get_or areas i d) ≡ false → part_among (drop (i + 1) areas) address ≡ part_among (drop i areas) address
  passed off = sym (next ∙ ap (λ t. if t then (get_or areas i d).part else part_among (drop (i + 1) areas) address) off)

  -- the first one that does has its part
  pub met : holds address (get_or areas i d) ≡ true → (get_or areas i d).part ≡ part_among (drop i areas) address
  met on = sym (next ∙ ap (λ t. if t then (get_or areas i d).part else part_among (drop (i + 1) areas) address) on)
