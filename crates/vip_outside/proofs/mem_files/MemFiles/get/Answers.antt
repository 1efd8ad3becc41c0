use Rattle.std.proofs.Common.{◌≡◌, None, option_map, ap, sym, ◌∙◌}
use Rattle.std.specs.FinMap as finite
use Rattle.vip_outside.proofs.FileTreeLemmas.{get-map_of}
use Rattle.vip_outside.proofs.mem_files.MemFiles.get.Goals as goal

pub returns-in_err-file : goal.returns-in_err-file
returns-in_err-file c =
    let absent : finite.get c.args.self.now.files c.args.name.now ≡ None = ap (λ s. finite.get s.files c.args.name.now) (sym c.self.view_is)
    ∙ get-map_of c.self.inside.files c.args.name.now
    ∙ ap (option_map (λ file. file.items)) (sym c.in_err-file.ensures.value) in
    rw (c.from_residual.ensures, absent)

pub returns : goal.returns
returns c =
    rw c.as_slice.ensures.value (sym (ap (λ s. finite.get s.files c.args.name.now) (sym c.self.view_is)
    ∙ get-map_of c.self.inside.files c.args.name.now
    ∙ ap (option_map (λ file. file.items)) (sym c.in_ok-file.ensures.value)))
