-- The reading of a list of games: how long its parts are, that events are read as in a key script, and what a line comes to by its parts.
use Rattle.std.proofs.Common.{◌≡◌, ℕ, zero, suc, ◌+◌, ◌-◌, ◌%◌, ◌<◌, ◌≤◌, Bool, true, false, cond, not, eqb, List, [], ◌∷◌, ◌++◌, length, map, filter, take, refl, sym, ap, ◌∙◌, subst, arith, inl, inr, Result, Ok, Err, IsErrAnd, append_assoc, append-nil, length-append}
use Rattle.std.specs.Prelude.{◌==◌, ◌⊎◌, nat_lt, Option, None, Some, codes}
use Rattle.std.specs.List.{cons_option, filter_map, list_any, onto_first, range_with_len, slice_split}
use Rattle.std.specs.Option.{option_map}
use Rattle.std.specs.Result.{result_err}
use Rattle.std.specs.Str.{bytes_eq}
use Rattle.std.specs.Str.Lines.{lines, lines_of_parts, strip_carriage_return}
use Rattle.std.specs.Prelude.{slice_index}
use Rattle.std.proofs.lemmas.Bool.{cases_Bool}
use Rattle.std.proofs.lemmas.List.Splits.{slice_split-cons_no, slice_split-cons_yes}
use Rattle.machine.specs.Keys.{Event}
use Rattle.chip8_lang.specs.State.{memory_size}
use Rattle.chip8_lang.specs.declared.view.Edition.{Edition}
use Rattle.vip_byte.specs.Reading.{◌>>=◌, fault_at, faults_of, read, unless_faulty, values_of}
use Rattle.vip_byte.specs.Text.{is_blank, words}
use Rattle.vip_keypad.specs.KeyScript.{script_format, script_of}
use Rattle.vip_keypad.specs.declared.script.ScriptCause.{ScriptCause}
use Rattle.vip_keypad.specs.declared.script.ScriptCause.TheVariants.{BadLine}
use Rattle.vip_keypad.specs.declared.script.ScriptFault.{ScriptFault}
use Rattle.vip_keypad.specs.declared.script.ScriptFault.TheVariants as script
use Rattle.vip_byte.proofs.ReadingLemmas.{IsReadUpTo, read-refused}
use Rattle.vip_tools.specs.Judged.{RefusedBy}
use Rattle.vip_tools.specs.Opening.{GamesCome, line_refusal}
use Rattle.vip_tools.specs.Games.{Game, LineAnswers, bytes_of, edition_of, event_words, events_format, events_of, fitting, game_of, game_said, games_format, gap, line_fault, script_text}
use Rattle.vip_tools.specs.declared.games.GameCause.{GameCause}
use Rattle.vip_tools.specs.declared.games.GameCause.TheVariants.{Keys, TooLarge}
use Rattle.vip_tools.specs.declared.games.LineFault.{LineFault}
use Rattle.vip_tools.specs.declared.games.LineFault.TheVariants.{Cause, NoMemory}

-- ---- the bytes of some parts, each with one that ends it

abbrev size : List (List ℕ) → ℕ
size [] = 0
size (part ∷ parts) = length part + 1 + size parts

size-onto : (x : ℕ) (parts : List (List ℕ)) (n : ℕ) → size parts ≡ n + 1 → size (onto_first x parts) ≡ n + 2
size-onto x [] n is = absurd (omega (arith, is))
size-onto x (part ∷ parts) n is = omega (arith, is)

-- those of a list that is cut at some of its bytes
size-split : (p : ℕ → Bool) (bytes : List ℕ) → size (slice_split p bytes) ≡ length bytes + 1
size-split p [] = refl
size-split p (byte ∷ bytes) = elim (cases_Bool (p byte)) [
  | inl cut ↦ rw (slice_split-cons_yes p byte bytes cut) (omega (arith, size-split p bytes))
  | inr other ↦
      rw (slice_split-cons_no p byte bytes other) (omega (arith, size-onto byte (slice_split p bytes) (length bytes) (size-split p bytes)))
]

size-filter : (q : List ℕ → Bool) (parts : List (List ℕ)) → size (filter q parts) ≤ size parts
size-filter q [] = omega arith
size-filter q (part ∷ parts) = elim (cases_Bool (q part)) [
  | inl kept ↦ rw kept (omega (arith, size-filter q parts))
  | inr left ↦ rw left (omega (arith, size-filter q parts))
]

size-words : (line : List ℕ) → size (words line) ≤ length line + 1
unfolding words
size-words line =
    let all = size-split is_blank line in
    let some = size-filter (λ word. not (eqb (length word) 0)) (slice_split is_blank line) in omega (arith, all, some)

size-events : (words : List (List ℕ)) → size (event_words words) ≤ size words
size-events [] = omega arith
size-events (word ∷ words) = elim (cases_Bool (bytes_eq word (codes "tall"))) [
  | inl tall ↦ rw tall (omega arith)
  | inr other ↦ rw other (omega arith)
]

length-gap : (before : ℕ) → length (gap before) ≡ 1
length-gap before = elim (cases_Bool (before == 2)) [ inl third ↦ rw third refl | inr other ↦ rw other refl ]

-- a key script that is made of words
size-script : (before : ℕ) (words : List (List ℕ)) → length (script_text before words) ≡ size words
unfolding script_text
size-script before [] = refl
size-script before (word ∷ words) =
    let more = script_text ((before + 1) % 3) words in
    omega (
      arith,
      length-append word (gap before ++ more),
      length-append (gap before) more,
      length-gap before,
      size-script ((before + 1) % 3) words,
    )

-- a word more is written, and what ends it
pub script-more : (text word whole : List ℕ) (byte before : ℕ) (others : List (List ℕ)) → byte ∷ [] ≡ gap before
    → text ++ script_text before (word ∷ others) ≡ whole → ((text ++ word) ++ byte ∷ []) ++ script_text ((before + 1) % 3) others ≡ whole
unfolding script_text
script-more text word whole byte before others ends is =
    let more = script_text ((before + 1) % 3) others in
    append_assoc (text ++ word) (byte ∷ []) more ∙ append_assoc text word ((byte ∷ []) ++ more)
    ∙ ap (λ g. text ++ (word ++ (g ++ more))) ends ∙ is

-- no word is left
pub script-whole : (text whole : List ℕ) (before : ℕ) → text ++ script_text before [] ≡ whole → text ≡ whole
unfolding script_text
script-whole text whole before is = sym (append-nil text) ∙ is

-- it is no longer than the line
pub few-events : (line first : List ℕ) (others : List (List ℕ)) (most : ℕ) → words line ≡ first ∷ others → length line ≤ most
    → length (script_text 0 (event_words others)) ≤ most
few-events line first others most is few =
    let all : size (first ∷ others) ≤ length line + 1 = subst (λ ws. size ws ≤ length line + 1) is (size-words line) in
    omega (arith, all, few, size-events others, size-script 0 (event_words others))

length-strip : (line : List ℕ) → length (strip_carriage_return line) ≤ length line
length-strip line = elim (cases_Bool (slice_index line (length line - 1) == 13)) [
  | inl ends ↦ rw ends (length-take (length line - 1) line)
  | inr other ↦ rw other (omega arith)
]
  where
    length-take : (n : ℕ) (bytes : List ℕ) → length (take n bytes) ≤ length bytes
    length-take zero bytes = omega arith
    length-take (suc n) [] = omega arith
    length-take (suc n) (byte ∷ bytes) = omega (arith, length-take n bytes)

size-parts : (parts : List (List ℕ)) → size (lines_of_parts parts) ≤ size parts
size-parts [] = omega arith
size-parts (part ∷ []) = elim (cases_Bool (length part == 0)) [ inl none ↦ rw none (omega arith) | inr some ↦ rw some (omega arith) ]
size-parts (part ∷ next ∷ parts) = omega (arith, length-strip part, size-parts (next ∷ parts))

size-lines : (text : List ℕ) → size (lines text) ≤ length text + 1
size-lines text =
    let all = size-split (λ byte. eqb byte 10) text in
    let some = size-parts (slice_split (λ byte. eqb byte 10) text) in omega (arith, all, some)

size-among : (before : List (List ℕ)) (part : List ℕ) (after : List (List ℕ)) → length part + 1 ≤ size (before ++ part ∷ after)
size-among [] part after = omega arith
size-among (other ∷ before) part after = omega (arith, size-among before part after)

-- a line of a text is no longer than the text
pub line-fits : (text : List ℕ) (before : List (List ℕ)) (line : List ℕ) (after : List (List ℕ)) → lines text ≡ before ++ line ∷ after → length line ≤ length text
line-fits text before line after is =
    let all : size (before ++ line ∷ after) ≤ length text + 1 = subst (λ ls. size ls ≤ length text + 1) is (size-lines text) in
    omega (arith, all, size-among before line after)

-- ---- events are read as those of a key script

abbrev keys_fault : ScriptFault → GameCause
keys_fault (script.Fault line cause) = Keys cause
keys_fault script.NoMemory = Keys BadLine

abbrev told : Result (List Event) ScriptFault → Result (List Event) GameCause
told (Ok events) = Ok events
told (Err fault) = Err (keys_fault fault)

mapped : (number : ℕ) (cause : Option ScriptCause) → option_map (λ c. Keys c) cause ≡ option_map keys_fault (option_map (script.Fault number) cause)
mapped number None = refl
mapped number (Some cause) = refl

same-fault : (ls : List (List ℕ)) (i : ℕ) → fault_at events_format ls i ≡ option_map keys_fault (fault_at script_format ls i)
unfolding values_of
same-fault ls i = mapped (i + 1) _

cons-mapped : (fault : Option ScriptFault) (faults : List ScriptFault)
    → cons_option (option_map keys_fault fault) (map keys_fault faults) ≡ map keys_fault (cons_option fault faults)
cons-mapped None faults = refl
cons-mapped (Some fault) faults = refl

same-faults : (ls : List (List ℕ)) (places : List ℕ)
    → filter_map (fault_at events_format ls) places ≡ map keys_fault (filter_map (fault_at script_format ls) places)
same-faults ls [] = refl
same-faults ls (i ∷ places) =
    rw (same-fault ls i, same-faults ls places) (cons-mapped (fault_at script_format ls i) (filter_map (fault_at script_format ls) places))

unless-mapped : (values : List Event) (faults : List ScriptFault)
    → unless_faulty events_format values (map keys_fault faults) ≡ told (unless_faulty script_format values faults)
unless-mapped values [] = refl
unless-mapped values (fault ∷ faults) = refl

read-events : (text : List ℕ) → read events_format text ≡ told (script_of text)
unfolding read values_of faults_of
read-events text =
    rw (same-faults (lines text) (range_with_len 0 (length (lines text))))
    (unless-mapped (values_of script_format (lines text)) (faults_of script_format (lines text)))

pub events-are : (text : List ℕ) (events : List Event) → list_any (λ byte. eqb byte 35) text ≡ false → script_of text ≡ Ok events → events_of text ≡ Ok events
unfolding events_of
events-are text events clean is = rw clean (read-events text ∙ ap told is)

pub events-fail : (text : List ℕ) (line : ℕ) (cause : ScriptCause) → list_any (λ byte. eqb byte 35) text ≡ false
    → script_of text ≡ Err (script.Fault line cause) → events_of text ≡ Err (Keys cause)
unfolding events_of
events-fail text line cause clean is = rw clean (read-events text ∙ ap told is)

pub events-refused : (text : List ℕ) (fault : ScriptFault) → list_any (λ byte. eqb byte 35) text ≡ false → (fault ≡ script.NoMemory) ⊎ (script_of text ≡ Err fault)
    → LineAnswers {A = List Event} {B = List Event} (λ events. events) (events_of text) (Err (line_fault fault))
events-refused text (script.Fault line cause) clean (inl none) = absurd (cc)
events-refused text (script.Fault line cause) clean (inr refused) = events-fail text line cause clean refused
events-refused text script.NoMemory clean fault = tt

-- ---- what a line comes to by its parts

-- an error that is passed on
pub passed-on : {A B X Y : Type 0} (view : X → A) (view' : Y → B) (due : Result A GameCause) (K : A → Result B GameCause) (fault : LineFault)
    → LineAnswers view due (Err fault) → (r : Result Y LineFault) → IsErrAnd r (λ e. e ≡ fault) → LineAnswers view' (due >>= K) r
passed-on view view' due K fault answer (Ok y) bad = absurd bad
passed-on view view' due K (Cause cause) answer (Err e) bad = rw (bad, answer) refl
passed-on view view' due K NoMemory answer (Err e) bad = rw bad tt

-- whether bytes are more than an edition's game memory has, of the same edition and bytes
pub size-is : (e e' : Edition) (bytes bytes' : List ℕ) (large is : Bool) → e ≡ e' → bytes ≡ bytes' → large ≡ nat_lt (memory_size e) (length bytes) → large ≡ is
    → nat_lt (memory_size e') (length bytes') ≡ is
size-is e e' bytes bytes' large is same same_bytes value fact = rw (← same, ← same_bytes) (sym value ∙ fact)

module _ {X : Type 0} (view : X → Game) (first : List ℕ) (words : List (List ℕ)) where
  abbrev rest : List ℕ → Result Game GameCause
  rest bytes = events_of (script_text 0 (event_words words)) >>= (λ keys. Ok (record { edition = edition_of words; bytes = bytes; keys = keys }))

  pub bytes-fail : {Y : Type 0} (seen : Y → List ℕ) (fault : LineFault) → LineAnswers seen (bytes_of first) (Err fault) → (r : Result X LineFault)
      → IsErrAnd r (λ e. e ≡ fault) → LineAnswers view (game_of first words) r
  unfolding game_of
  bytes-fail seen fault answer r bad = passed-on seen view (bytes_of first) (λ all. fitting (edition_of words) all >>= rest) fault answer r bad

  module _ (all : List ℕ) (is : bytes_of first ≡ Ok all) where
    pub too-large : nat_lt (memory_size (edition_of words)) (length all) ≡ true → game_of first words ≡ Err TooLarge
    unfolding game_of
    too-large large = rw (is, large) refl

    module _ (fits : nat_lt (memory_size (edition_of words)) (length all) ≡ false) where
      pub keys-fail : {Y : Type 0} (seen : Y → List Event) (fault : LineFault) → LineAnswers seen (events_of (script_text 0 (event_words words))) (Err fault)
          → (r : Result X LineFault) → IsErrAnd r (λ e. e ≡ fault) → LineAnswers view (game_of first words) r
      unfolding game_of
      keys-fail seen fault answer r bad =
          rw (is, fits)
          (passed-on seen view (events_of (script_text 0 (event_words words))) (λ keys. Ok (record { edition = edition_of words; bytes = all; keys = keys })) fault answer r bad)

      pub game-is : (keys : List Event) → events_of (script_text 0 (event_words words)) ≡ Ok keys
          → game_of first words ≡ Ok (record { edition = edition_of words; bytes = all; keys = keys })
      unfolding game_of
      game-is keys said = rw (is, fits, said) refl

-- ---- the list

-- a line that wasn't read, behind lines that were
pub refused-line : (text : List ℕ) (before : List (List ℕ)) (line : List ℕ) (after : List (List ℕ)) (games : List Game) (number : ℕ) (fault : LineFault)
    → IsReadUpTo games_format text before (line ∷ after) games number
    → LineAnswers {A = Option Game} {B = Option Game} (λ game. game) (game_said line) (Err fault) → RefusedBy (GamesCome text) (line_refusal (number + 1) fault)
refused-line text before line after games number (Cause cause) so_far answer = record {
  fault = record { line = number + 1; cause = cause };
  is = read-refused games_format text before line after games number cause so_far (ap result_err answer);
  tells = refl;
}
refused-line text before line after games number NoMemory so_far answer = tt
