-- A request that was loaded is told by what was asked for and by the contents of its files, and what is known of the files holds of these.
use Rattle.std.proofs.Common.{◌≡◌, ℕ, ◌<◌, ◌≤◌, List, [], ◌∷◌, ◌++◌, length, map, Option, Some, None, slice_index, refl, sym, ap, ap₂, subst, ◌∙◌}
use Rattle.std.specs.Prelude.{option_map}
use Rattle.std.proofs.lemmas.List.{map-append}
use Rattle.vip_outside.specs.Files.{FilesMeaning}
use Rattle.vip_words.specs.Request.{Asked, map_board_show, map_code, map_program_show, map_request, map_show, map_start}
use Rattle.vip_words.specs.Rules.{Word}
use Rattle.vip_words.specs.declared.request.Code.{Code}
use Rattle.vip_words.specs.declared.request.Code.TheVariants as code
use Rattle.vip_words.specs.declared.request.BoardShow.{BoardShow}
use Rattle.vip_words.specs.declared.request.BoardShow.TheVariants as board
use Rattle.vip_words.specs.declared.request.ProgramShow.{ProgramShow}
use Rattle.vip_words.specs.declared.request.ProgramShow.TheVariants as program
use Rattle.vip_words.specs.declared.request.Request.{Request}
use Rattle.vip_words.specs.declared.request.Request.TheVariants as request
use Rattle.vip_words.specs.declared.request.Show.{Show}
use Rattle.vip_words.specs.declared.request.Show.TheVariants as show
use Rattle.vip_words.specs.declared.request.Start.{Start}
use Rattle.vip_words.specs.declared.request.Start.TheVariants as start
use Rattle.vip_tools.specs.Files.{HasAll, IsRight, Loaded, Needed, board_show_files, code_file, files_of, game_kind, most_text, needed, program_code, program_kind, program_show_files, program_size, program_state_file, script_files, shape_of, show_files, start_files, with_file}
use Rattle.vip_tools.specs.declared.refusal.Kind.{Kind}
use Rattle.vip_tools.specs.declared.refusal.Kind.TheVariants.{Certificate}
use Rattle.chip8_lang.specs.State.{memory_size}

-- ---- the kinds of the files, and their most bytes

abbrev bound_of : {N : Type 0} → Needed N → Kind × ℕ
bound_of n = (n.kind, n.most)

abbrev bounds : {N : Type 0} → List (Needed N) → List (Kind × ℕ)
bounds ns = map bound_of ns

-- they don't hang on the files themselves
module _ {A B : Type 0} (f : A → B) where
  code_bounds : (kind : Kind) (most : ℕ) (code : Code A) → bounds (code_file kind most (map_code f code) ∷ []) ≡ bounds (code_file kind most code ∷ [])
  code_bounds kind most (code.Bytes file) = refl
  code_bounds kind most (code.Source file told) = refl

  start_bounds : (s : Start A) → bounds (start_files (map_start f s)) ≡ bounds (start_files s)
  start_bounds (start.Game code edition) = code_bounds (game_kind edition) (memory_size edition) code
  start_bounds (start.State file) = refl
  start_bounds (start.Made made) = refl

  show_bounds : (s : Show A) → bounds (show_files (map_show f s)) ≡ bounds (show_files s)
  show_bounds (show.Commands file echo columns) = refl
  show_bounds (show.Plain shown) = refl

  script_bounds : (k : Option A) → bounds (script_files (option_map f k)) ≡ bounds (script_files k)
  script_bounds None = refl
  script_bounds (Some file) = refl

  board_show_bounds : (s : BoardShow A) → bounds (board_show_files (map_board_show f s)) ≡ bounds (board_show_files s)
  board_show_bounds (board.Commands file echo) = refl
  board_show_bounds board.State = refl

  program_show_bounds : (s : ProgramShow A) → bounds (program_show_files (map_program_show f s)) ≡ bounds (program_show_files s)
  program_show_bounds program.Trace = refl
  program_show_bounds program.Pictures = refl
  program_show_bounds program.Profile = refl
  program_show_bounds (program.Board shown) = board_show_bounds shown

both_bounds : {N : Type 0} (xs ys : List (Needed N)) → bounds (xs ++ ys) ≡ bounds xs ++ bounds ys
both_bounds xs ys = map-append bound_of xs ys

three_bounds :
    {A B : Type 0} (xs bs cs : List (Needed A)) (ds es fs : List (Needed B)) → bounds xs ≡ bounds ds → bounds bs ≡ bounds es → bounds cs ≡ bounds fs
    → bounds (xs ++ (bs ++ cs)) ≡ bounds (ds ++ (es ++ fs))
three_bounds xs bs cs ds es fs a b c =
    both_bounds xs (bs ++ cs) ∙ ap (λ l. bounds xs ++ l) (both_bounds bs cs) ∙ ap₂ (λ x y. x ++ y) a (ap₂ (λ x y. x ++ y) b c)
    ∙ sym (both_bounds ds (es ++ fs) ∙ ap (λ l. bounds ds ++ l) (both_bounds es fs))

same_bounds : {A B : Type 0} (f : A → B) (r : Request A) → bounds (needed (map_request f r)) ≡ bounds (needed r)
same_bounds f (request.Run run) =
    three_bounds (start_files (map_start f run.start)) (show_files (map_show f run.show)) (script_files (option_map f run.keys))
    (start_files run.start) (show_files run.show) (script_files run.keys)
    (start_bounds f run.start) (show_bounds f run.show) (script_bounds f run.keys)
same_bounds f (request.Program run) =
    three_bounds (program_code run.memory (map_code f run.code) ∷ []) (program_show_files (map_program_show f run.show)) (script_files (option_map f run.keys))
    (program_code run.memory run.code ∷ []) (program_show_files run.show) (script_files run.keys)
    (code_bounds f (program_kind run.memory) (program_size run.memory) run.code) (program_show_bounds f run.show) (script_bounds f run.keys)
same_bounds f (request.Resumed run) =
    three_bounds (program_state_file (f run.state) ∷ []) (board_show_files (map_board_show f run.show)) (script_files (option_map f run.keys))
    (program_state_file run.state ∷ []) (board_show_files run.show) (script_files run.keys)
    refl (board_show_bounds f run.show) (script_bounds f run.keys)
same_bounds f (request.Safe game certificate edition) =
    ap (λ bound. bound ++ (Certificate, most_text) ∷ []) (code_bounds f (game_kind edition) (memory_size edition) game)
same_bounds f (request.Certify game edition) = code_bounds f (game_kind edition) (memory_size edition) game
same_bounds f _ = refl

-- ---- the files are small enough, of bytes, and right

pub record IsGiven (n : Needed (List ℕ)) : Type 0 where
  pub fits : length n.file ≤ n.most
  pub bytes : (i : ℕ) → slice_index n.file i < 256
  pub right : IsRight n.kind n.file

abbrev pub AreGiven : List (Needed (List ℕ)) → Type 0
AreGiven [] = Unit {0}
AreGiven (n ∷ ns) = IsGiven n × AreGiven ns

all_given :
    (old : FilesMeaning) (names : List (Needed Word)) (ns : List (Needed (List ℕ))) → bounds names ≡ bounds ns → HasAll old names (files_of ns) → AreGiven ns
all_given old [] [] same read = tt
all_given old [] (n ∷ ns) same read = cc
all_given old (m ∷ ms) [] same read = cc
all_given old (m ∷ ms) (n ∷ ns) same read =
    let one : bound_of m ≡ bound_of n = cc in
    let others : bounds ms ≡ bounds ns = cc in (
      record {
        fits = subst (λ bound. length n.file ≤ bound.1) one read.0.fits;
        bytes = read.0.bytes;
        right = subst (λ bound. IsRight bound.0 n.file) one read.0.judged;
      },
      all_given old ms ns others read.1,
    )

pub are_given : (old : FilesMeaning) (asked : Asked) (loaded : Loaded) → shape_of asked ≡ shape_of loaded → HasAll old (needed asked) (files_of (needed loaded))
    → AreGiven (needed loaded)
are_given old asked loaded shape read =
    all_given old (needed asked) (needed loaded)
    (sym (same_bounds (λ _. tt) asked) ∙ ap (λ r. bounds (needed r)) shape ∙ same_bounds (λ _. tt) loaded) read

-- ---- the request, by its shape and its files

abbrev first_file : List (List ℕ) → List ℕ
first_file [] = []
first_file (x ∷ xs) = x

abbrev other_files : List (List ℕ) → List (List ℕ)
other_files [] = []
other_files (x ∷ xs) = xs

abbrev fill_start : Start (Unit {0}) → List (List ℕ) → Start (List ℕ)
fill_start (start.Game code edition) xs = start.Game (with_file code (first_file xs)) edition
fill_start (start.State file) xs = start.State (first_file xs)
fill_start (start.Made made) xs = start.Made made

abbrev behind_start : Start (Unit {0}) → List (List ℕ) → List (List ℕ)
behind_start (start.Game code edition) xs = other_files xs
behind_start (start.State file) xs = other_files xs
behind_start (start.Made made) xs = xs

abbrev fill_show : Show (Unit {0}) → List (List ℕ) → Show (List ℕ)
fill_show (show.Commands file echo columns) xs = show.Commands (first_file xs) echo columns
fill_show (show.Plain shown) xs = show.Plain shown

abbrev behind_show : Show (Unit {0}) → List (List ℕ) → List (List ℕ)
behind_show (show.Commands file echo columns) xs = other_files xs
behind_show _ xs = xs

abbrev fill_board_show : BoardShow (Unit {0}) → List (List ℕ) → BoardShow (List ℕ)
fill_board_show (board.Commands file echo) xs = board.Commands (first_file xs) echo
fill_board_show board.State xs = board.State

abbrev behind_board_show : BoardShow (Unit {0}) → List (List ℕ) → List (List ℕ)
behind_board_show (board.Commands file echo) xs = other_files xs
behind_board_show board.State xs = xs

abbrev fill_program_show : ProgramShow (Unit {0}) → List (List ℕ) → ProgramShow (List ℕ)
fill_program_show program.Trace xs = program.Trace
fill_program_show program.Pictures xs = program.Pictures
fill_program_show program.Profile xs = program.Profile
fill_program_show (program.Board shown) xs = program.Board (fill_board_show shown xs)

abbrev behind_program_show : ProgramShow (Unit {0}) → List (List ℕ) → List (List ℕ)
behind_program_show (program.Board shown) xs = behind_board_show shown xs
behind_program_show _ xs = xs

abbrev fill_keys : Option (Unit {0}) → List (List ℕ) → Option (List ℕ)
fill_keys None xs = None
fill_keys (Some file) xs = Some (first_file xs)

abbrev fill : Request (Unit {0}) → List (List ℕ) → Loaded
fill (request.Run run) xs =
    let ys = behind_start run.start xs in
    request.Run (record {
      start = fill_start run.start xs;
      keys = fill_keys run.keys (behind_show run.show ys);
      limit = run.limit;
      show = fill_show run.show ys;
    })
fill (request.Program run) xs =
    let ys = other_files xs in
    request.Program (record {
      code = with_file run.code (first_file xs);
      memory = run.memory;
      keys = fill_keys run.keys (behind_program_show run.show ys);
      limit = run.limit;
      show = fill_program_show run.show ys;
    })
fill (request.Resumed run) xs =
    let ys = other_files xs in
    request.Resumed (record {
      state = first_file xs;
      keys = fill_keys run.keys (behind_board_show run.show ys);
      limit = run.limit;
      show = fill_board_show run.show ys;
    })
fill (request.Link message moves number) xs = request.Link (first_file xs) moves number
fill (request.Text verb file) xs = request.Text verb (first_file xs)
fill (request.Cycles source certificate exits) xs = request.Cycles (first_file xs) (first_file (other_files xs)) exits
fill (request.Safe code certificate edition) xs = request.Safe (with_file code (first_file xs)) (first_file (other_files xs)) edition
fill (request.Certify code edition) xs = request.Certify (with_file code (first_file xs)) edition
fill (request.Own text) xs = request.Own text

abbrev bare : List ℕ → Unit {0}
bare x = tt

code_filled : (kind : Kind) (most : ℕ) (code : Code (List ℕ)) → with_file (map_code bare code) (code_file kind most code).file ≡ code
code_filled kind most (code.Bytes file) = refl
code_filled kind most (code.Source file told) = refl

start_filled : (s : Start (List ℕ)) (ns : List (Needed (List ℕ))) → fill_start (map_start bare s) (files_of (start_files s ++ ns)) ≡ s
start_filled (start.Game code edition) ns = ap (λ code. start.Game code edition) (code_filled (game_kind edition) (memory_size edition) code)
start_filled (start.State file) ns = refl
start_filled (start.Made made) ns = refl

start_left : (s : Start (List ℕ)) (ns : List (Needed (List ℕ))) → behind_start (map_start bare s) (files_of (start_files s ++ ns)) ≡ files_of ns
start_left (start.Game code edition) ns = refl
start_left (start.State file) ns = refl
start_left (start.Made made) ns = refl

show_filled : (s : Show (List ℕ)) (ns : List (Needed (List ℕ))) → fill_show (map_show bare s) (files_of (show_files s ++ ns)) ≡ s
show_filled (show.Commands file echo columns) ns = refl
show_filled (show.Plain shown) ns = refl

show_left : (s : Show (List ℕ)) (ns : List (Needed (List ℕ))) → behind_show (map_show bare s) (files_of (show_files s ++ ns)) ≡ files_of ns
show_left (show.Commands file echo columns) ns = refl
show_left (show.Plain shown) ns = refl

board_show_filled : (s : BoardShow (List ℕ)) (ns : List (Needed (List ℕ))) → fill_board_show (map_board_show bare s) (files_of (board_show_files s ++ ns)) ≡ s
board_show_filled (board.Commands file echo) ns = refl
board_show_filled board.State ns = refl

board_show_left : (s : BoardShow (List ℕ)) (ns : List (Needed (List ℕ)))
    → behind_board_show (map_board_show bare s) (files_of (board_show_files s ++ ns)) ≡ files_of ns
board_show_left (board.Commands file echo) ns = refl
board_show_left board.State ns = refl

program_show_filled : (s : ProgramShow (List ℕ)) (ns : List (Needed (List ℕ)))
    → fill_program_show (map_program_show bare s) (files_of (program_show_files s ++ ns)) ≡ s
program_show_filled program.Trace ns = refl
program_show_filled program.Pictures ns = refl
program_show_filled program.Profile ns = refl
program_show_filled (program.Board shown) ns = ap program.Board (board_show_filled shown ns)

program_show_left : (s : ProgramShow (List ℕ)) (ns : List (Needed (List ℕ)))
    → behind_program_show (map_program_show bare s) (files_of (program_show_files s ++ ns)) ≡ files_of ns
program_show_left program.Trace ns = refl
program_show_left program.Pictures ns = refl
program_show_left program.Profile ns = refl
program_show_left (program.Board shown) ns = board_show_left shown ns

keys_filled : (k : Option (List ℕ)) → fill_keys (option_map bare k) (files_of (script_files k)) ≡ k
keys_filled None = refl
keys_filled (Some file) = refl

filled : (r : Loaded) → fill (shape_of r) (files_of (needed r)) ≡ r
filled (request.Run run) =
    λ i. request.Run (record {
      start = start_filled run.start behind i;
      keys = keys_are i;
      limit = run.limit;
      show = (ap (fill_show (map_show bare run.show)) (start_left run.start behind) ∙ show_filled run.show (script_files run.keys)) i;
    })
  where
    behind : List (Needed (List ℕ))
    behind = show_files run.show ++ script_files run.keys

    keys_are :
        fill_keys (option_map bare run.keys)
        (behind_show (map_show bare run.show) (behind_start (map_start bare run.start) (files_of (start_files run.start ++ behind))))
        ≡ run.keys
    keys_are =
        ap (λ ys. fill_keys (option_map bare run.keys) (behind_show (map_show bare run.show) ys)) (start_left run.start behind)
        ∙ ap (fill_keys (option_map bare run.keys)) (show_left run.show (script_files run.keys))
        ∙ keys_filled run.keys
filled (request.Program run) =
    λ i. request.Program (record {
      code = code_filled (program_kind run.memory) (program_size run.memory) run.code i;
      memory = run.memory;
      keys = (ap (fill_keys (option_map bare run.keys)) (program_show_left run.show (script_files run.keys)) ∙ keys_filled run.keys) i;
      limit = run.limit;
      show = program_show_filled run.show (script_files run.keys) i;
    })
filled (request.Resumed run) =
    λ i. request.Resumed (record {
      state = run.state;
      keys = (ap (fill_keys (option_map bare run.keys)) (board_show_left run.show (script_files run.keys)) ∙ keys_filled run.keys) i;
      limit = run.limit;
      show = board_show_filled run.show (script_files run.keys) i;
    })
filled (request.Safe code certificate edition) =
    ap (λ code. request.Safe code certificate edition) (code_filled (game_kind edition) (memory_size edition) code)
filled (request.Certify code edition) = ap (λ code. request.Certify code edition) (code_filled (game_kind edition) (memory_size edition) code)
filled _ = refl

-- so there is one with this shape and these files
pub one_loaded : (a b : Loaded) → shape_of a ≡ shape_of b → files_of (needed a) ≡ files_of (needed b) → a ≡ b
one_loaded a b shape files = sym (filled a) ∙ ap₂ fill shape files ∙ filled b
