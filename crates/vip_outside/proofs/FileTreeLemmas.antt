-- The map that a tree of files holds: what it has at a name, and what an insertion makes of it.
use Rattle.std.proofs.Common.{◌≡◌, ℕ, Bool, true, false, cond, List, [], ◌∷◌, Option, Some, map, option_map, refl, sym, ap, ◌∙◌}
use Rattle.std.specs.Prelude.{Vec, String, string_bytes}
use Rattle.std.specs.Ordering.{nat_cmp, eq_by_cmp}
use Rattle.std.specs.Cmp.{eq_by_cmp_equiv}
use Rattle.std.specs.Cmp.Lexicographic.{slice_cmp, nat_list_cmp_total}
use Rattle.std.specs.String.{string_cmp}
use Rattle.std.specs.Str.{bytes_eq}
use Rattle.std.specs.Map.{lookup}
use Rattle.std.specs.BTreeMap as tree
use Rattle.std.specs.BTreeMap.{BTreeMap, is_at}
use Rattle.std.specs.FinMap as finite
use Rattle.std.specs.FinMap.{find, get-from_entries, get-insert, same_map, slice_cmp-IsAntisymmetric, nat_cmp-IsAntisymmetric}
use Rattle.std.proofs.lemmas.Map.Text.{is_eq-slice_cmp, btree_map_updates_text}
use Rattle.vip_outside.specs.FileTree.{map_of}

pick : {Z : Type 0} (b : Bool) (file : Vec ℕ Z) (a : Option (List ℕ)) (o : Option (Vec ℕ Z)) → a ≡ option_map (λ file. file.items) o
    → cond b (Some file.items) a ≡ option_map (λ file. file.items) (cond b (Some file) o)
pick true file a o same = refl
pick false file a o same = same

bytes_eq-names : (name other : List ℕ) → bytes_eq name other ≡ eq_by_cmp (slice_cmp nat_cmp) other name
bytes_eq-names name other = sym (is_eq-slice_cmp name other) ∙ (eq_by_cmp_equiv nat_list_cmp_total).symm name other

module _ {Y Z : Type 0} where
  find-entries : (name : List ℕ) (entries : List (String Y × Vec ℕ Z))
      → find (slice_cmp nat_cmp) name (map (λ entry. (string_bytes entry.0, entry.1.items)) entries)
      ≡ option_map (λ file. file.items) (lookup (is_at (λ key. slice_cmp nat_cmp name (string_bytes key))) entries)
  find-entries name [] = refl
  find-entries name (entry ∷ entries) = pick (eq_by_cmp (slice_cmp nat_cmp) name (string_bytes entry.0)) entry.1 _ _ (find-entries name entries)

  -- what the map has at a name is what the tree has there
  pub get-map_of : (files : BTreeMap (String Y) (Vec ℕ Z)) (name : List ℕ)
      → finite.get (map_of files) name ≡ option_map (λ file. file.items) (tree.get_by_text files name)
  get-map_of files name = get-from_entries nat_list_cmp_total _ name ∙ find-entries name files.entries

  -- a file that is put into the tree is put into the map
  pub map_of-insert : (old new : BTreeMap (String Y) (Vec ℕ Z)) (name : String Y) (file : Vec ℕ Z)
      → tree.UpdatesBy string_cmp (string_cmp name) old new (Some file) → map_of new ≡ finite.insert (map_of old) (string_bytes name) file.items
  map_of-insert old new name file updates =
      same_map nat_list_cmp_total (slice_cmp-IsAntisymmetric nat_cmp-IsAntisymmetric) _ _ (λ q.
      get-map_of new q
      ∙ ap (option_map (λ file. file.items)) (btree_map_updates_text (string_bytes name) old new (Some file) updates q)
      ∙ ap (λ b. option_map (λ file. file.items) (cond b (Some file) (tree.get_by_text old q))) (bytes_eq-names (string_bytes name) q)
      ∙ sym (pick (eq_by_cmp (slice_cmp nat_cmp) q (string_bytes name)) file _ _ (get-map_of old q))
      ∙ sym (get-insert nat_list_cmp_total (map_of old) (string_bytes name) file.items q))
