use Rattle.std.proofs.Common.{Err, Global, ap, refl, sym, subst}
use Rattle.chip8_lang.specs.State.{memory_size}
use Rattle.vip_words.specs.Request.{code_of, start_of}
use Rattle.vip_words.specs.declared.request.Start.TheVariants.{Game}
use Rattle.vip_tools.specs.Files.{game_kind}
use Rattle.vip_tools.specs.Loading.{StartLoads}
use Rattle.vip_tools.proofs.FilesLemmas.{loads-none, loads-one, refused-one}
use Rattle.vip_tools.proofs.LoadingLemmas.{code-shape, loads-code}
use Rattle.vip_tools.proofs.WorkLemmas.{passed}
use Rattle.vip_tools.proofs.loading.load_start.Goals as goal

pub returns-in_err-content-in-Game : goal.returns-in_err-content-in-Game
returns-in_err-content-in-Game g c =
    passed (StartLoads {Z = Global} (g.F.Files.meaning c.args.files.now) (g.F.Files.meaning c.open_file.new.files) (start_of c.args.start)) _ _ c.from_residual.ensures.1
    (subst (λ x. StartLoads {Z = Global} (g.F.Files.meaning c.args.files.now) (g.F.Files.meaning c.open_file.new.files) (start_of x) (Err c.in_err-content-in-Game.field-0.0)) (sym c.in-Game.is)
    (refused-one _ _ _ _ c.game_code.ensures c.in_err-content-in-Game.field-0.0 c.in_err-content-in-Game.ensures))

pub returns-in_ok-content-in-Game : goal.returns-in_ok-content-in-Game
returns-in_ok-content-in-Game g c =
    let e = c.in-Game.edition in
    let code = code_of c.in-Game.code in
    rw c.in-Game.is (
      ap (λ code. Game code e) (code-shape code c.in_ok-content-in-Game.content.items _ c.with_file.ensures),
      loads-code (game_kind e) (memory_size e) _ _ _ code c.game_code.ensures c.in_ok-content-in-Game.content c.in_ok-content-in-Game.ensures _
          c.with_file.ensures,
    )

pub returns-in_err-file-in-State : goal.returns-in_err-file-in-State
returns-in_err-file-in-State g c =
    passed (StartLoads {Z = Global} (g.F.Files.meaning c.args.files.now) (g.F.Files.meaning c.open_file-in-State.new.files) (start_of c.args.start)) _ _ c.from_residual-in_err-file-in-State.ensures.1
    (subst (λ x. StartLoads {Z = Global} (g.F.Files.meaning c.args.files.now) (g.F.Files.meaning c.open_file-in-State.new.files) (start_of x) (Err c.in_err-file-in-State.field-0.0)) (sym c.in-State.is)
    (refused-one _ _ _ _ c.state_file.ensures c.in_err-file-in-State.field-0.0 c.in_err-file-in-State.ensures))

pub returns-in_ok-file-in-State : goal.returns-in_ok-file-in-State
returns-in_ok-file-in-State g c = rw c.in-State.is (refl, loads-one _ _ _ _ c.state_file.ensures c.in_ok-file-in-State.file c.in_ok-file-in-State.ensures)

pub returns-in-Made : goal.returns-in-Made
returns-in-Made g c = rw c.in-Made.is (refl, loads-none _)
