use Rattle.std.proofs.Common.{Bor, Err, Global, List, ℕ, refl, sym, subst}
use Rattle.std.specs.Prelude.{option_map}
use Rattle.vip_tools.specs.Loading.{KeysLoad}
use Rattle.vip_tools.proofs.FilesLemmas.{loads-none, loads-one, refused-one}
use Rattle.vip_tools.proofs.WorkLemmas.{passed}
use Rattle.vip_tools.proofs.loading.load_keys.Goals as goal

pub returns-in_err-script-in-Some : goal.returns-in_err-script-in-Some
returns-in_err-script-in-Some g c =
    passed (KeysLoad {Z = Global} (g.F.Files.meaning c.args.files.now) (g.F.Files.meaning c.open_file.new.files) (option_map (λ (name : Bor (List ℕ)). name.now) c.args.keys)) _ _ c.from_residual.ensures.1
    (subst (λ x. KeysLoad {Z = Global} (g.F.Files.meaning c.args.files.now) (g.F.Files.meaning c.open_file.new.files) (option_map (λ (name : Bor (List ℕ)). name.now) x) (Err c.in_err-script-in-Some.field-0.0)) (sym c.in-Some.is)
    (refused-one _ _ _ _ c.script_file.ensures c.in_err-script-in-Some.field-0.0 c.in_err-script-in-Some.ensures))

pub returns-in_ok-script-in-Some : goal.returns-in_ok-script-in-Some
returns-in_ok-script-in-Some g c = rw c.in-Some.is (refl, loads-one _ _ _ _ c.script_file.ensures c.in_ok-script-in-Some.script c.in_ok-script-in-Some.ensures)

pub returns-in-None : goal.returns-in-None
returns-in-None g c = rw c.in-None.is (refl, loads-none _)
