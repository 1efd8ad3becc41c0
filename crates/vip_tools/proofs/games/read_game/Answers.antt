use Rattle.std.proofs.Common.{◌≡◌, ℕ, List, Global, Vec, Ok, Err, if◌then◌else◌, ap, sym, subst, ◌∙◌}
use Rattle.machine.specs.Keys.{Event}
use Rattle.chip8_lang.specs.declared.view.Edition.TheVariants.{Tall, Usual}
use Rattle.vip_tools.specs.Games.{Game, LineAnswers, edition_of, event_words, events_of, script_text}
use Rattle.vip_tools.proofs.GamesLemmas.{bytes-fail, game-is, keys-fail, size-is, too-large}
use Rattle.vip_tools.proofs.games.read_game.Goals as goal

pub returns-in_err-bytes : goal.returns-in_err-bytes
returns-in_err-bytes c =
    bytes-fail (λ (game : Game). game) c.args.first.now c.args.words (λ (bytes : Vec ℕ Global). bytes.items) c.in_err-bytes.field-0.0 c.in_err-bytes.ensures _
    c.from_residual.ensures.1

pub returns-then-is_large : goal.returns-then-is_large
returns-then-is_large c =
    let edition : c.edition_by-edition.result ≡ edition_of c.args.words = c.edition_by-edition.ensures ∙ ap (λ t. if t then Tall else Usual) c.requires.tall in
    too-large (λ (game : Game). game) c.args.first.now c.args.words c.in_ok-bytes.bytes.items c.in_ok-bytes.ensures
    (size-is _ _ _ _ _ _ edition c.as_slice.ensures.value c.is_large.ensures.value c.if-is_large.true)

pub returns-in_err-keys : goal.returns-in_err-keys
returns-in_err-keys c =
    let edition : c.edition_by-edition.result ≡ edition_of c.args.words = c.edition_by-edition.ensures ∙ ap (λ t. if t then Tall else Usual) c.requires.tall in
    let text : c.as_slice-2.result.now ≡ script_text 0 (event_words c.args.words) =
    c.as_slice-2.ensures.value ∙ c.in_ok-text.ensures ∙ ap (script_text 0) c.event_words.ensures in
    keys-fail (λ (game : Game). game) c.args.first.now c.args.words c.in_ok-bytes.bytes.items c.in_ok-bytes.ensures
    (size-is _ _ _ _ _ _ edition c.as_slice.ensures.value c.is_large.ensures.value c.if-is_large.false)
    (λ (keys : List Event). keys) c.in_err-keys.field-0.0
    (subst (λ t. LineAnswers (λ (keys : List Event). keys) (events_of t) (Err c.in_err-keys.field-0.0)) text c.in_err-keys.ensures) _
    c.from_residual-in_err-keys.ensures.1

pub returns : goal.returns
returns c =
    let edition : c.edition_by-edition.result ≡ edition_of c.args.words = c.edition_by-edition.ensures ∙ ap (λ t. if t then Tall else Usual) c.requires.tall in
    let text : c.as_slice-2.result.now ≡ script_text 0 (event_words c.args.words) =
    c.as_slice-2.ensures.value ∙ c.in_ok-text.ensures ∙ ap (script_text 0) c.event_words.ensures in
    game-is (λ (game : Game). game) c.args.first.now c.args.words c.in_ok-bytes.bytes.items c.in_ok-bytes.ensures
    (size-is _ _ _ _ _ _ edition c.as_slice.ensures.value c.is_large.ensures.value c.if-is_large.false) c.in_ok-keys.keys
    (ap events_of (sym text) ∙ c.in_ok-keys.ensures)
    ∙ ap (λ e. Ok (record { edition = e; bytes = c.in_ok-bytes.bytes.items; keys = c.in_ok-keys.keys })) (sym edition)
