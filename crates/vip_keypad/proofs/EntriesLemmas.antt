-- The keys that are down after the entries of a script.
use Rattle.std.proofs.Common.{◌≡◌, ℕ, zero, suc, ◌+◌, ◌-◌, ◌<◌, ◌≤◌, Bool, true, false, cond, ◌&&◌, eqb, leb, List, [], ◌∷◌, ◌++◌, length, map, filter, take, get_or, Some, refl, sym, ap, ◌∙◌, arith, inl, inr}
use Rattle.std.specs.Prelude.{slice_get}
use Rattle.std.specs.List.{AllWithin}
use Rattle.std.specs.Option.{option_map_or}
use Rattle.std.proofs.Math.Seq.{get_or-append_seam, take-length}
use Rattle.std.proofs.lemmas.Bool.{cases_Bool, cases_lt}
use Rattle.std.proofs.lemmas.List.{append-nil, get_or-map, get_or_append_left, length-append, length-map, map-append, take-append-le}
use Rattle.std.proofs.lemmas.List.Elements.{filter-append}
use Rattle.std.proofs.lemmas.List.Sorted.{IsNonDecreasingBy-push}
use Rattle.std.proofs.lemmas.Option.{slice_get-get_or}
use Rattle.machine.specs.Keys.{Event, held_at}
use Rattle.vip_keypad.specs.Entries.{AreSearchable, event_of_entry, held_after}
use Rattle.vip_keypad.specs.KeySet.{has_key}
use Rattle.vip_keypad.specs.KeyScript.{last_cycle}
use Rattle.vip_keypad.specs.declared.script.Entry.{Entry}

-- the last of some events goes down
abbrev last_down : List Event → Bool
last_down events = option_map_or (λ event. event.down) (slice_get events (length events - 1)) false

last_down-push : (events : List Event) (event : Event) → last_down (events ++ event ∷ []) ≡ event.down
last_down-push events event =
    let end : length (events ++ event ∷ []) - 1 ≡ length events = omega (arith, length-append events (event ∷ [])) in
    let within : length events < length (events ++ event ∷ []) = omega (arith, length-append events (event ∷ [])) in
    rw (end, slice_get-get_or (events ++ event ∷ []) (length events) event within, get_or-append_seam events event [] event) refl

-- an event decides on its key alone
held_after-push : (events : List Event) (event : Event) (k : ℕ) → held_after (events ++ event ∷ []) k ≡ cond (eqb event.key k) event.down (held_after events k)
held_after-push events event k =
    let own = filter (λ e. eqb e.key k) in
    ap last_down (filter-append (λ e. eqb e.key k) events (event ∷ []))
    ∙ elim (cases_Bool (eqb event.key k)) [
      | inl same ↦ rw same (last_down-push (own events) event)
      | inr other ↦ rw (other, append-nil) refl
    ]

-- the cycle of the last entry is at most that of the next one
last_cycle-entries : (entries : List Entry) (cycle : ℕ) → last_cycle (map event_of_entry entries) ≤ cycle
    → (d : Entry) → 0 < length entries → (get_or entries (length entries - 1) d).cycle ≤ cycle
last_cycle-entries entries cycle above d some =
    let last : slice_get (map event_of_entry entries) (length (map event_of_entry entries) - 1)
    ≡ Some (event_of_entry (get_or entries (length entries - 1) d)) =
    rw (length-map entries event_of_entry)
    (slice_get-get_or (map event_of_entry entries) (length entries - 1) (event_of_entry d) (omega (arith, length-map entries event_of_entry))
    ∙ ap Some (get_or-map event_of_entry entries (length entries - 1) d (event_of_entry d) (omega arith))) in
    rw last at above

-- an entry more, with the keys that are down after it
pub AreSearchable-push : (entries : List Entry) (entry : Entry) → AreSearchable entries → last_cycle (map event_of_entry entries) ≤ entry.cycle
    → ((k : ℕ) → k < 16 → has_key entry.keys.bits k ≡ cond (eqb entry.key k) entry.down (held_after (map event_of_entry entries) k))
    → AreSearchable (entries ++ entry ∷ [])
AreSearchable-push entries entry before above keys = record {
  in_order = IsNonDecreasingBy-push (λ e. e.cycle) entries entry before.in_order (last_cycle-entries entries entry.cycle above);
  keys = λ i k d within below. elim (cases_lt i (length entries)) [
    | inl old ↦
        rw (get_or_append_left entries (entry ∷ []) d i old, take-append-le (i + 1) entries (entry ∷ []) (omega arith)) (before.keys i k d old below)
    | inr new ↦
        let end : i ≡ length entries = omega (arith, length-append entries (entry ∷ [])) in
        let all : take (length entries + 1) (entries ++ entry ∷ []) ≡ entries ++ entry ∷ [] =
        ap (λ n. take n (entries ++ entry ∷ [])) (sym (length-append entries (entry ∷ []))) ∙ take-length (entries ++ entry ∷ []) in
        rw (end, get_or-append_seam entries entry [] d, all, map-append)
        (keys k below ∙ sym (held_after-push (map event_of_entry entries) (event_of_entry entry) k))
  ];
}

-- the events of a key at or before a cycle are those of the key among the first entries
events_before-entries : (entries : List Entry) (t key n : ℕ) → n ≤ length entries → AllWithin (λ e. leb e.cycle t ≡ true) entries 0 n
    → AllWithin (λ e. leb e.cycle t ≡ false) entries n (length entries)
    → filter (λ e. eqb e.key key && leb e.cycle t) (map event_of_entry entries) ≡ filter (λ e. eqb e.key key) (map event_of_entry (take n entries))
events_before-entries [] t key zero within past future = refl
events_before-entries [] t key (suc n) within past future = refl
events_before-entries (entry ∷ entries) t key zero within past future =
    let rest =
    events_before-entries entries t key zero (omega arith) (λ k d low high. absurd (omega arith))
    (λ k d low high. future (suc k) d (omega arith) (omega arith)) in
    rw (future 0 entry (omega arith) (omega arith))
    (elim (cases_Bool (eqb entry.key key)) [ inl same ↦ rw same rest | inr other ↦ rw other rest ])
events_before-entries (entry ∷ entries) t key (suc n) within past future =
    let rest =
    events_before-entries entries t key n (omega arith) (λ k d low high. past (suc k) d (omega arith) (omega arith))
    (λ k d low high. future (suc k) d (omega arith) (omega arith)) in
    rw (past 0 entry (omega arith) (omega arith))
    (elim (cases_Bool (eqb entry.key key)) [ inl same ↦ rw same (ap (λ events. event_of_entry entry ∷ events) rest) | inr other ↦ rw other rest ])

-- so the keys that are held down at a cycle are those after the first entries
pub held_at-entries : (entries : List Entry) (t key n : ℕ) → n ≤ length entries → AllWithin (λ e. leb e.cycle t ≡ true) entries 0 n
    → AllWithin (λ e. leb e.cycle t ≡ false) entries n (length entries)
    → held_at (map event_of_entry entries) t key ≡ held_after (map event_of_entry (take n entries)) key
held_at-entries entries t key n within past future = ap last_down (events_before-entries entries t key n within past future)
