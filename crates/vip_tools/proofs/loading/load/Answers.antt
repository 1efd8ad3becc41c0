use Rattle.std.proofs.Common.{Err, Global, ap, refl, sym, subst}
use Rattle.chip8_lang.specs.State.{memory_size}
use Rattle.vip_words.specs.Request.{asked_of, code_of}
use Rattle.vip_words.specs.declared.request.Request.TheVariants.{Certify, Program, Resumed, Run, Safe}
use Rattle.vip_tools.specs.Files.{game_kind, LoadAnswers}
use Rattle.vip_tools.proofs.FilesLemmas.{loads-none, loads-one, refused-one}
use Rattle.vip_tools.proofs.LoadingLemmas.{code-shape, loads-code, loads-code-and, loads-pair, refused-pair}
use Rattle.vip_tools.proofs.WorkLemmas.{passed}
use Rattle.vip_tools.proofs.loading.load.Goals as goal

pub returns-in_err-run-in-Run : goal.returns-in_err-run-in-Run
returns-in_err-run-in-Run g c =
    passed (LoadAnswers {Z = Global} (g.F.Files.meaning c.args.files.now) (g.F.Files.meaning c.load_run.new.files) (asked_of c.args.request)) _ _ c.from_residual.ensures.1
    (subst (λ r. LoadAnswers {Z = Global} (g.F.Files.meaning c.args.files.now) (g.F.Files.meaning c.load_run.new.files) (asked_of r) (Err c.in_err-run-in-Run.field-0.0)) (sym c.in-Run.is)
    c.in_err-run-in-Run.ensures)

pub returns-in_ok-run-in-Run : goal.returns-in_ok-run-in-Run
returns-in_ok-run-in-Run g c = rw c.in-Run.is (record { shape = ap Run c.in_ok-run-in-Run.ensures.0; loads = c.in_ok-run-in-Run.ensures.1 })

pub returns-in_err-run-in-Program : goal.returns-in_err-run-in-Program
returns-in_err-run-in-Program g c =
    passed (LoadAnswers {Z = Global} (g.F.Files.meaning c.args.files.now) (g.F.Files.meaning c.load_program.new.files) (asked_of c.args.request)) _ _ c.from_residual-in_err-run-in-Program.ensures.1
    (subst (λ r. LoadAnswers {Z = Global} (g.F.Files.meaning c.args.files.now) (g.F.Files.meaning c.load_program.new.files) (asked_of r) (Err c.in_err-run-in-Program.field-0.0)) (sym c.in-Program.is)
    c.in_err-run-in-Program.ensures)

pub returns-in_ok-run-in-Program : goal.returns-in_ok-run-in-Program
returns-in_ok-run-in-Program g c = rw c.in-Program.is (record { shape = ap Program c.in_ok-run-in-Program.ensures.0; loads = c.in_ok-run-in-Program.ensures.1 })

pub returns-in_err-run-in-Resumed : goal.returns-in_err-run-in-Resumed
returns-in_err-run-in-Resumed g c =
    passed (LoadAnswers {Z = Global} (g.F.Files.meaning c.args.files.now) (g.F.Files.meaning c.load_resumed.new.files) (asked_of c.args.request)) _ _ c.from_residual-in_err-run-in-Resumed.ensures.1
    (subst (λ r. LoadAnswers {Z = Global} (g.F.Files.meaning c.args.files.now) (g.F.Files.meaning c.load_resumed.new.files) (asked_of r) (Err c.in_err-run-in-Resumed.field-0.0)) (sym c.in-Resumed.is)
    c.in_err-run-in-Resumed.ensures)

pub returns-in_ok-run-in-Resumed : goal.returns-in_ok-run-in-Resumed
returns-in_ok-run-in-Resumed g c = rw c.in-Resumed.is (record { shape = ap Resumed c.in_ok-run-in-Resumed.ensures.0; loads = c.in_ok-run-in-Resumed.ensures.1 })

pub returns-in_err-message-in-Link : goal.returns-in_err-message-in-Link
returns-in_err-message-in-Link g c =
    passed (LoadAnswers {Z = Global} (g.F.Files.meaning c.args.files.now) (g.F.Files.meaning c.open_file.new.files) (asked_of c.args.request)) _ _ c.from_residual-in_err-message-in-Link.ensures.1
    (subst (λ r. LoadAnswers {Z = Global} (g.F.Files.meaning c.args.files.now) (g.F.Files.meaning c.open_file.new.files) (asked_of r) (Err c.in_err-message-in-Link.field-0.0)) (sym c.in-Link.is)
    (refused-one _ _ _ _ c.message_file.ensures c.in_err-message-in-Link.field-0.0 c.in_err-message-in-Link.ensures))

pub returns-in_ok-message-in-Link : goal.returns-in_ok-message-in-Link
returns-in_ok-message-in-Link g c =
    rw c.in-Link.is
    (record { shape = refl; loads = loads-one _ _ _ _ c.message_file.ensures c.in_ok-message-in-Link.message c.in_ok-message-in-Link.ensures })

pub returns-in_err-file-in-Text : goal.returns-in_err-file-in-Text
returns-in_err-file-in-Text g c =
    passed (LoadAnswers {Z = Global} (g.F.Files.meaning c.args.files.now) (g.F.Files.meaning c.open_file-in-Text.new.files) (asked_of c.args.request)) _ _ c.from_residual-in_err-file-in-Text.ensures.1
    (subst (λ r. LoadAnswers {Z = Global} (g.F.Files.meaning c.args.files.now) (g.F.Files.meaning c.open_file-in-Text.new.files) (asked_of r) (Err c.in_err-file-in-Text.field-0.0)) (sym c.in-Text.is)
    (refused-one _ _ _ _ c.text_file.ensures c.in_err-file-in-Text.field-0.0 c.in_err-file-in-Text.ensures))

pub returns-in_ok-file-in-Text : goal.returns-in_ok-file-in-Text
returns-in_ok-file-in-Text g c =
    rw c.in-Text.is (record { shape = refl; loads = loads-one _ _ _ _ c.text_file.ensures c.in_ok-file-in-Text.file c.in_ok-file-in-Text.ensures })

pub returns-in_err-pair-in-Cycles : goal.returns-in_err-pair-in-Cycles
returns-in_err-pair-in-Cycles g c =
    passed (LoadAnswers {Z = Global} (g.F.Files.meaning c.args.files.now) (g.F.Files.meaning c.load_pair.new.files) (asked_of c.args.request)) _ _ c.from_residual-in_err-pair-in-Cycles.ensures.1
    (subst (λ r. LoadAnswers {Z = Global} (g.F.Files.meaning c.args.files.now) (g.F.Files.meaning c.load_pair.new.files) (asked_of r) (Err c.in_err-pair-in-Cycles.field-0.0)) (sym c.in-Cycles.is)
    (refused-pair _ _ _ _ _ _ c.source_file.ensures c.certificate_file.ensures c.in_err-pair-in-Cycles.field-0.0 c.in_err-pair-in-Cycles.ensures))

pub returns-in_ok-pair-in-Cycles : goal.returns-in_ok-pair-in-Cycles
returns-in_ok-pair-in-Cycles g c =
    rw c.in-Cycles.is
    (record { shape = refl; loads = loads-pair _ _ _ _ _ _ c.source_file.ensures c.certificate_file.ensures c.in_ok-pair-in-Cycles.pair c.in_ok-pair-in-Cycles.ensures })

pub returns-in_err-pair-in-Safe : goal.returns-in_err-pair-in-Safe
returns-in_err-pair-in-Safe g c =
    passed (LoadAnswers {Z = Global} (g.F.Files.meaning c.args.files.now) (g.F.Files.meaning c.load_pair-in-Safe.new.files) (asked_of c.args.request)) _ _ c.from_residual-in_err-pair-in-Safe.ensures.1
    (subst (λ r. LoadAnswers {Z = Global} (g.F.Files.meaning c.args.files.now) (g.F.Files.meaning c.load_pair-in-Safe.new.files) (asked_of r) (Err c.in_err-pair-in-Safe.field-0.0)) (sym c.in-Safe.is)
    (refused-pair _ _ _ _ _ _ c.game_code.ensures c.certificate_file-in-Safe.ensures c.in_err-pair-in-Safe.field-0.0 c.in_err-pair-in-Safe.ensures))

pub returns-in_ok-pair-in-Safe : goal.returns-in_ok-pair-in-Safe
returns-in_ok-pair-in-Safe g c =
    let e = c.in-Safe.edition in
    let code = code_of c.in-Safe.game in
    rw c.in-Safe.is (record {
      shape = ap (λ code. Safe code tt e) (code-shape code c.in_ok-pair-in-Safe.pair.0.items _ c.with_file.ensures);
      loads =
          loads-code-and (game_kind e) (memory_size e) _ _ _ _ _ code c.game_code.ensures c.certificate_file-in-Safe.ensures c.in_ok-pair-in-Safe.pair
          c.in_ok-pair-in-Safe.ensures _ c.with_file.ensures;
    })

pub returns-in_err-content-in-Certify : goal.returns-in_err-content-in-Certify
returns-in_err-content-in-Certify g c =
    passed (LoadAnswers {Z = Global} (g.F.Files.meaning c.args.files.now) (g.F.Files.meaning c.open_file-in-Certify.new.files) (asked_of c.args.request)) _ _ c.from_residual-in_err-content-in-Certify.ensures.1
    (subst (λ r. LoadAnswers {Z = Global} (g.F.Files.meaning c.args.files.now) (g.F.Files.meaning c.open_file-in-Certify.new.files) (asked_of r) (Err c.in_err-content-in-Certify.field-0.0)) (sym c.in-Certify.is)
    (refused-one _ _ _ _ c.game_code-in-Certify.ensures c.in_err-content-in-Certify.field-0.0 c.in_err-content-in-Certify.ensures))

pub returns-in_ok-content-in-Certify : goal.returns-in_ok-content-in-Certify
returns-in_ok-content-in-Certify g c =
    let e = c.in-Certify.edition in
    let code = code_of c.in-Certify.game in
    rw c.in-Certify.is (record {
      shape = ap (λ code. Certify code e) (code-shape code c.in_ok-content-in-Certify.content.items _ c.with_file-in-Certify.ensures);
      loads =
          loads-code (game_kind e) (memory_size e) _ _ _ code c.game_code-in-Certify.ensures c.in_ok-content-in-Certify.content c.in_ok-content-in-Certify.ensures _
          c.with_file-in-Certify.ensures;
    })

pub returns-in-Own : goal.returns-in-Own
returns-in-Own g c = rw c.in-Own.is (record { shape = refl; loads = loads-none _ })
