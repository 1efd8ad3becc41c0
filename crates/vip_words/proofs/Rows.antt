-- What is looked up in the rows of a parse: after a use of an argument, and after the defaults.
use Rattle.std.proofs.Common.{◌≡◌, ◌∙◌, ap, sym, refl, append-nil, List, [], ◌∷◌, ◌++◌, Bool, true, false, Option, Some, None, option_map, fold, find}
use Rattle.std.proofs.lemmas.Option.{none-some}
use Rattle.std.proofs.lemmas.Slice.Eq.{bytes_eq-Decides}
use Rattle.std.specs.List.{list_all}
use Rattle.std.specs.Option.{option_map_or}
use Rattle.std.specs.Prelude.{◌&&◌, ◌||◌, bytes_eq, is_some, if◌then◌else◌, option_and_then, slice_get}
use Rattle.clap.specs.Facts.{explicit_source}
use Rattle.clap.specs.Faults.{defaults_fault, given_default_fault}
use Rattle.clap.specs.Kinds.{Kinds}
use Rattle.clap.specs.Takes.{is_given}
use Rattle.clap.specs.Walk.{Row, Rule, Text, at_row, default_rows, first_of, has_row, is_empty, more_values, reading_by, with_default, with_values, without}
use Rattle.clap.specs.declared.builder.value_parser.Reading.{Reading}
use Rattle.clap.specs.declared.parser.matches.ValueSource.{ValueSource}
use Rattle.clap.specs.declared.parser.matches.ValueSource.TheVariants.{DefaultValue}

-- the values of a row, whether the words gave them, and how they are read
abbrev pub Seen : Type 0
Seen = List Text × Bool × Reading

abbrev pub seen_of : Row → Seen
seen_of r = (r.values, explicit_source r.source, r.reading)

-- what the first row of this id shows
abbrev pub look : Text → List Row → Option Seen
look id rows = option_map seen_of (find (λ r. bytes_eq r.id id) rows)

-- the first of the two that is there
abbrev pub or_first : {T : Type 0} → Option T → Option T → Option T
or_first None next = next
or_first (Some x) next = Some x

pub or_first-none : {T : Type 0} (o : Option T) → or_first o None ≡ o
or_first-none None = refl
or_first-none (Some x) = refl

pub both_true : (a b : Bool) → (a && b) ≡ true → (a ≡ true) × (b ≡ true)
both_true true b h = (refl, h)
both_true false b h = cc

pub same_bytes : (xs ys : Text) → bytes_eq xs ys ≡ true → xs ≡ ys
same_bytes xs ys equal = (bytes_eq-Decides xs ys).0 equal

pub has_row-look : (id : Text) (rows : List Row) → has_row id rows ≡ is_some (look id rows)
has_row-look id [] = refl
has_row-look id (r ∷ rs) =
    elim (bytes_eq r.id id) as (λ b. (b || has_row id rs)
    ≡ is_some {T = Seen} (option_map seen_of (if b then Some r else find (λ x. bytes_eq x.id id) rs))) [
      | true ↦ refl
      | false ↦ has_row-look id rs
    ]

pub is_given-look : (id : Text) (rows : List Row) → is_given id rows ≡ option_map_or (λ seen. seen.1) (look id rows) false
is_given-look id rows = given_at (find (λ r. bytes_eq r.id id) rows)
  where
    given_at : (o : Option Row)
        → option_map_or (λ r. explicit_source r.source) o false ≡ option_map_or (λ (seen : Seen). seen.1) (option_map seen_of o) false
    given_at None = refl
    given_at (Some r) = refl

pub first_of-look : (id : Text) (rows : List Row) → first_of id rows ≡ option_and_then (λ seen. slice_get seen.0 0) (look id rows)
first_of-look id rows = first_at (find (λ r. bytes_eq r.id id) rows)
  where
    first_at : (o : Option Row)
        → option_and_then (λ (r : Row). slice_get r.values 0) o
        ≡ option_and_then (λ (seen : Seen). slice_get seen.0 0) (option_map seen_of o)
    first_at None = refl
    first_at (Some r) = refl

-- ---- a new row

abbrev pub new_row : Text → Reading → ValueSource → List Text → Row
new_row id how source values = record { id = id; values = values; count = None; source = Some source; reading = how }

-- where there is no row of this id, a change adds what is missing at the end
at_row-absent : (id : Text) (change : Row → List Row) (missing rows : List Row) → look id rows ≡ None
    → at_row id change missing rows ≡ rows ++ missing
at_row-absent id change missing [] absent = refl
at_row-absent id change missing (r ∷ rs) absent =
    elim (bytes_eq r.id id) as (λ b. option_map seen_of (if b then Some r else find (λ x. bytes_eq x.id id) rs) ≡ None
    → (if b then change r ++ rs else r ∷ at_row id change missing rs) ≡ r ∷ (rs ++ missing)) [
      | true ↦ λ (h : option_map seen_of (Some r) ≡ None). absurd (none-some (seen_of r) (sym h))
      | false ↦ λ h. ap (λ xs. r ∷ xs) (at_row-absent id change missing rs h)
    ] absent

-- a first use of an argument adds a row
pub use-adds : (id : Text) (how : Reading) (source : ValueSource) (values : List Text) (rows : List Row) → look id rows ≡ None
    → with_values id how source values (without id rows) ≡ rows ++ new_row id how source values ∷ []
use-adds id how source values rows absent =
    let kept : without id rows ≡ rows ++ [] = at_row-absent id (λ _. []) [] rows absent in
    let same : without id rows ≡ rows = kept ∙ append-nil rows in
    rw same (at_row-absent id (more_values source values) (new_row id how source values ∷ []) rows absent)

-- what a new row shows to an id
abbrev pub shown_by : Text → Row → Option Seen
shown_by id r = if bytes_eq r.id id then Some (seen_of r) else None

pub look-append : (id : Text) (rows : List Row) (r : Row) → look id (rows ++ r ∷ []) ≡ or_first (look id rows) (shown_by id r)
look-append id [] r =
    elim (bytes_eq r.id id) as (λ b. option_map seen_of (if b then Some r else None) ≡ (if b then Some (seen_of r) else None))
    [ true ↦ refl | false ↦ refl ]
look-append id (x ∷ xs) r =
    elim (bytes_eq x.id id) as (λ b. option_map seen_of (if b then Some x else find (λ y. bytes_eq y.id id) (xs ++ r ∷ []))
    ≡ or_first (option_map seen_of (if b then Some x else find (λ y. bytes_eq y.id id) xs)) (shown_by id r)) [
      | true ↦ refl
      | false ↦ look-append id xs r
    ]

-- what is looked up after a first use
pub look-use : (id id' : Text) (how : Reading) (source : ValueSource) (values : List Text) (rows : List Row) → look id rows ≡ None
    → look id' (with_values id how source values (without id rows)) ≡ or_first (look id' rows) (shown_by id' (new_row id how source values))
look-use id id' how source values rows absent =
    rw (use-adds id how source values rows absent) (look-append id' rows (new_row id how source values))

pub look-other : (id id' : Text) (how : Reading) (source : ValueSource) (values : List Text) (rows : List Row) → look id rows ≡ None
    → bytes_eq id id' ≡ false → look id' (with_values id how source values (without id rows)) ≡ look id' rows
look-other id id' how source values rows absent differs =
    look-use id id' how source values rows absent ∙ rw differs (or_first-none (look id' rows))

-- ---- the defaults

abbrev pub is_nil : {X : Type 0} → List X → Bool
is_nil [] = true
is_nil (x ∷ xs) = false

-- what the default of an argument shows
abbrev pub default_seen : List Text → Reading → Option Seen
default_seen [] how = None
default_seen (v ∷ vs) how = Some (v ∷ vs, false, how)

abbrev pub after_default : Text → Option Seen → Rule → Option Seen
after_default id o a = if bytes_eq a.id id then or_first o (default_seen a.defaults (reading_by a)) else o

default_rows-look : (own id : Text) (how : Reading) (values : List Text) (rows : List Row) → look own rows ≡ None
    → look id (default_rows own how values rows)
    ≡ (if bytes_eq own id then or_first (look id rows) (default_seen values how) else look id rows)
default_rows-look own id how [] rows absent =
    elim (bytes_eq own id) as (λ b. look id rows ≡ (if b then or_first (look id rows) None else look id rows)) [
      | true ↦ sym (or_first-none (look id rows))
      | false ↦ refl
    ]
default_rows-look own id how (v ∷ vs) rows absent =
    let row : Row = new_row own how DefaultValue (v ∷ vs) in
    let added : default_rows own how (v ∷ vs) rows ≡ rows ++ row ∷ [] =
    at_row-absent own (more_values DefaultValue (v ∷ vs)) (row ∷ []) rows absent in
    rw (added, look-append id rows row)
    (elim (bytes_eq own id) as (λ b. or_first (look id rows) (if b then Some (v ∷ vs, false, how) else None)
    ≡ (if b then or_first (look id rows) (Some (v ∷ vs, false, how)) else look id rows)) [
      | true ↦ refl
      | false ↦ or_first-none (look id rows)
    ])

with_default-look : (id : Text) (rows : List Row) (a : Rule) → look id (with_default rows a) ≡ after_default id (look id rows) a
with_default-look id rows a = by_own (look a.id rows) refl
  where
    by_own : (o : Option Seen) → look a.id rows ≡ o → look id (with_default rows a) ≡ after_default id (look id rows) a
    by_own None absent = rw (has_row-look a.id rows, absent) (default_rows-look a.id id (reading_by a) a.defaults rows absent)
    by_own (Some x) there = rw (has_row-look a.id rows, there) (kept (bytes_eq a.id id) refl)
      where
        kept : (b : Bool) → bytes_eq a.id id ≡ b
            → look id rows ≡ (if b then or_first (look id rows) (default_seen a.defaults (reading_by a)) else look id rows)
        kept false differs = refl
        kept true same = let found : look id rows ≡ Some x = rw (← same_bytes a.id id same) there in rw found refl

-- what is looked up once each argument has its default
pub defaults-look : (id : Text) (rows : List Row) (arguments : List Rule)
    → look id (fold with_default rows arguments) ≡ fold (after_default id) (look id rows) arguments
defaults-look id rows [] = refl
defaults-look id rows (a ∷ rest) =
    defaults-look id (with_default rows a) rest ∙ ap (λ o. fold (after_default id) o rest) (with_default-look id rows a)

-- arguments with no default change nothing
pub no_default : (id : Text) (o : Option Seen) (arguments : List Rule) → list_all (λ a. is_nil a.defaults) arguments ≡ true
    → fold (after_default id) o arguments ≡ o
no_default id o [] none = refl
no_default id o (a ∷ rest) none =
    let parts = both_true (is_nil a.defaults) (list_all (λ a'. is_nil a'.defaults) rest) none in
    rw (unchanged id o a a.defaults parts.0) (no_default id o rest parts.1)
  where
    same_or : (b : Bool) (o : Option Seen) → (if b then or_first o None else o) ≡ o
    same_or true o = or_first-none o
    same_or false o = refl

    unchanged : (id : Text) (o : Option Seen) (a : Rule) (values : List Text) → is_nil values ≡ true
        → (if bytes_eq a.id id then or_first o (default_seen values (reading_by a)) else o) ≡ o
    unchanged id o a [] none = same_or (bytes_eq a.id id) o
    unchanged id o a (v ∷ vs) none = cc

-- the default of an argument is no fault
abbrev pub is_quiet : Rule → Bool
is_quiet a = is_empty a.defaults || is_nil (given_default_fault a a.defaults)

pub quiet_defaults : (rows : List Row) (arguments : List Rule) → list_all is_quiet arguments ≡ true → defaults_fault rows arguments ≡ []
unfolding defaults_fault
quiet_defaults rows [] quiet = refl
quiet_defaults rows (a ∷ rest) quiet =
    let parts = both_true (is_quiet a) (list_all is_quiet rest) quiet in
    rw (silent (has_row a.id rows) (is_empty a.defaults) (given_default_fault a a.defaults) parts.0)
    (quiet_defaults (with_default rows a) rest parts.1)
  where
    silent : (has empty : Bool) (fault : Kinds) → (empty || is_nil fault) ≡ true → (if has || empty then [] else fault) ≡ []
    silent true empty fault h = refl
    silent false true fault h = refl
    silent false false [] h = refl
    silent false false (k ∷ ks) h = cc
