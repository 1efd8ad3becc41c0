use Rattle.std.proofs.Common.{◌≡◌}
use Rattle.std.specs.FinMap as finite
use Rattle.vip_outside.specs.FileTree.{map_of}
use Rattle.vip_outside.proofs.FileTreeLemmas.{map_of-insert}
use Rattle.vip_outside.proofs.mem_files.MemFiles.add.Goals as goal

pub returns-clause-ok : goal.returns-clause-ok
returns-clause-ok c =
    let inserted : map_of c.insert.new.self ≡ finite.insert (map_of c.self.inside.files) c.args.name.now c.args.bytes.now =
    rw (← c.in_ok-name.ensures.ok, ← c.in_ok-bytes.ensures.items)
    (map_of-insert c.self.inside.files c.insert.new.self c.in_ok-name.name c.in_ok-bytes.bytes c.in_ok-insert.ensures.updates) in
    rw (← c.self.view_is, inserted)
