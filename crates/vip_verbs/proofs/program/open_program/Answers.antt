use Rattle.std.proofs.Common.{ℕ, List, Err, Ok, subst}
use Rattle.vip_tools.specs.Judged.{Judged}
use Rattle.vip_tools.specs.Outcome.{Output}
use Rattle.vip_tools.proofs.JudgedLemmas.{behind, refused-behind, refused-first}
use Rattle.vip_tools.proofs.WorkLemmas.{passed}
use Rattle.asm_lex.specs.declared.shape.Isa.TheVariants.{Cdp1802}
use Rattle.vip_tools.specs.Code.{ImageComes, known_of}
use Rattle.vip_words.specs.Request.{map_program}
use Rattle.vip_words.specs.declared.request.ProgramRequest.{ProgramRequest}
use Rattle.vip_verbs.specs.Opening.{ProgramShowReady}
use Rattle.vip_verbs.specs.Programs.{ProgramRunComes, ProgramShowComes}
use Rattle.vip_verbs.specs.Prepared.{PrepareAnswers}
use Rattle.vip_verbs.proofs.FitLemmas.{program-fits, program-keys-fit, program-show-fits}
use Rattle.vip_verbs.proofs.ProgramLemmas.{begun-of, program-comes, refused-board, refused-program-show}
use Rattle.vip_verbs.proofs.program.open_program.Goals as goal

-- what is shown of a program's run, by the bytes of both memories
abbrev Shows : ProgramRequest (List ℕ) → List ℕ × List ℕ → Judged Output
Shows asked image = ProgramShowComes (known_of Cdp1802 asked.code) asked.memory image.0 image.1 asked.keys asked.limit asked.show

pub marked_program-requires : goal.marked_program-requires
marked_program-requires c = program-fits (map_program (λ bytes. bytes.items) c.args.request) c.requires

pub make_ready-requires : goal.make_ready-requires
make_ready-requires c = program-show-fits (map_program (λ bytes. bytes.items) c.args.request) c.requires

pub start_board-requires-clause-image : goal.start_board-requires-clause-image
start_board-requires-clause-image c = c.in_ok-opened.ensures.0.1

pub start_board-requires-clause-keys : goal.start_board-requires-clause-keys
start_board-requires-clause-keys c = program-keys-fit (map_program (λ bytes. bytes.items) c.args.request) c.requires

pub returns-in_err-opened : goal.returns-in_err-opened
returns-in_err-opened c =
    let asked = map_program (λ bytes. bytes.items) c.args.request in
    passed (PrepareAnswers (ProgramRunComes asked)) _ _ c.from_residual.ensures.1
    (refused-first (ImageComes asked.memory asked.code) (Shows asked) _ c.in_err-opened.ensures)

pub returns-in_err-show : goal.returns-in_err-show
returns-in_err-show c =
    let asked = map_program (λ bytes. bytes.items) c.args.request in
    let image = c.in_ok-opened.opened.image in
    passed (PrepareAnswers (ProgramRunComes asked)) _ _ c.from_residual-in_err-show.ensures.1
    (refused-behind (ImageComes asked.memory asked.code) (Shows asked) (image.rom.items, image.ram.items) c.in_ok-opened.ensures.0.0 _
    (refused-program-show asked.memory image.rom.items image.ram.items asked.keys (known_of Cdp1802 asked.code) asked.limit asked.show _
    (subst (λ known. ProgramShowReady known asked.limit asked.show (Err c.in_err-show.field-0.0)) c.in_ok-opened.ensures.1 c.in_err-show.ensures)))

pub returns-in_err-board : goal.returns-in_err-board
returns-in_err-board c =
    let asked = map_program (λ bytes. bytes.items) c.args.request in
    let image = c.in_ok-opened.opened.image in
    passed (PrepareAnswers (ProgramRunComes asked)) _ _ c.from_residual-in_err-board.ensures.1
    (refused-behind (ImageComes asked.memory asked.code) (Shows asked) (image.rom.items, image.ram.items) c.in_ok-opened.ensures.0.0 _
    (refused-board asked.memory image.rom.items image.ram.items asked.keys (known_of Cdp1802 asked.code) asked.limit c.in_ok-show.show asked.show
    (subst (λ known. ProgramShowReady known asked.limit asked.show (Ok c.in_ok-show.show)) c.in_ok-opened.ensures.1 c.in_ok-show.ensures) _ c.in_err-board.ensures))

pub returns : goal.returns
returns c =
    let asked = map_program (λ bytes. bytes.items) c.args.request in
    let image = c.in_ok-opened.opened.image in
    let begins = c.in_ok-board.ensures in (
      begun-of _ _ _ _ _ begins,
      behind (ImageComes asked.memory asked.code) (Shows asked) (image.rom.items, image.ram.items) c.in_ok-opened.ensures.0.0 _
          (program-comes asked.memory image.rom.items image.ram.items asked.keys (known_of Cdp1802 asked.code) asked.limit c.in_ok-show.show asked.show
          (subst (λ known. ProgramShowReady known asked.limit asked.show (Ok c.in_ok-show.show)) c.in_ok-opened.ensures.1 c.in_ok-show.ensures) _ begins),
    )
