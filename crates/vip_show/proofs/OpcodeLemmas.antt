-- The opcodes of a profile, with one point more.
use Rattle.std.proofs.Common.{◌≡◌, ℕ, ◌<◌, List, [], ◌∷◌, ◌++◌, length, replicate, refl, sym, ap, ◌∙◌, subst, append-nil}
use Rattle.std.specs.Prelude.{if◌then◌else◌, ◌==◌, filter, Option, Some, None, slice_index_or, slice_set}
use Rattle.std.specs.List.{last_or}
use Rattle.std.proofs.lemmas.Bool.{eq-eqb, ne_eqb}
use Rattle.std.proofs.lemmas.List.{map-append}
use Rattle.std.proofs.lemmas.List.Elements.{filter-append}
use Rattle.chip8_lang.specs.View.{View}
use Rattle.vip_program.specs.Counts.{addresses, Counted, HasValues}
use Rattle.vip_program.proofs.Counting.{table-first, table-set}
use Rattle.vip_relation.specs.Stops.{opcode_of}
use Rattle.vip_show.specs.declared.opcodes.Opcodes.{Opcodes}
use Rattle.vip_show.specs.declared.opcodes.Profile.{Profile}
use Rattle.vip_show.specs.Profile.{AreLast, Profiles, met_points, opcode_at, point_of}

last-more : (o : Option View) (views : List View) (view : View) → last_or o (views ++ view ∷ []) ≡ Some view
last-more o [] view = refl
last-more o (v ∷ views) view = last-more (Some v) views view

opcode-here : (views : List View) (view : View) (pc : ℕ) → pc ≡ view.pc → opcode_at (views ++ view ∷ []) pc ≡ view.opcode
opcode-here views view pc here =
    ap (λ vs. opcode_of (last_or None vs)) (filter-append (λ v. v.pc == pc) views (view ∷ []))
    ∙ ap (λ b. opcode_of (last_or None (filter (λ v. v.pc == pc) views ++ (if b then view ∷ [] else [])))) (eq-eqb view.pc pc (sym here))
    ∙ ap opcode_of (last-more None (filter (λ v. v.pc == pc) views) view)

opcode-there : (views : List View) (view : View) (pc : ℕ) → (pc ≡ view.pc → ⊥) → opcode_at (views ++ view ∷ []) pc ≡ opcode_at views pc
opcode-there views view pc there =
    ap (λ vs. opcode_of (last_or None vs)) (filter-append (λ v. v.pc == pc) views (view ∷ []))
    ∙ ap (λ b. opcode_of (last_or None (filter (λ v. v.pc == pc) views ++ (if b then view ∷ [] else [])))) (ne_eqb view.pc pc (λ same. there (sym same)))
    ∙ ap (λ vs. opcode_of (last_or None vs)) (append-nil (filter (λ v. v.pc == pc) views))

-- of no point
pub last-none : (items : List (Option ℕ)) → items ≡ replicate addresses None → HasValues items (opcode_at [])
last-none items none = table-first items None (opcode_at []) none (λ pc. refl)

-- with one point more
pub profiles-more : (old new : Profile) (views : List View) (view : View) → Profiles old views → length old.opcodes.last.items ≡ addresses → view.pc < addresses
    → new.opcodes.last.items ≡ slice_set old.opcodes.last.items view.pc view.opcode → Counted new.counts (met_points views ++ point_of view ∷ [])
    → Profiles new (views ++ view ∷ [])
profiles-more old new views view p size within opcodes counted = record {
  counted = subst (Counted new.counts) (sym (map-append point_of views (view ∷ []))) counted;
  last =
      λ pc other below. ap (λ items. slice_index_or items pc other) opcodes
      ∙ table-set old.opcodes.last.items view.pc view.opcode (opcode_at views) (opcode_at (views ++ view ∷ [])) size within p.last
      (sym (opcode-here views view view.pc refl)) (λ pc there. sym (opcode-there views view pc there)) pc other below;
}
