use Rattle.std.proofs.Common.{sym, ◌∙◌}
use Rattle.chip8_lang.specs.View.{seen}
use Rattle.vip_show.specs.Profile.{met_points}
use Rattle.vip_show.proofs.OpcodeLemmas.{profiles-more}
use Rattle.vip_show.proofs.opcodes.Profile.meet.Goals as goal

pub returns : goal.returns
returns c views profiles behind =
    profiles-more c.args.self.now _ views (seen c.args.view.now) profiles (sym c.args.self.now.opcodes.last.ok.0 ∙ c.args.self.now.opcodes.last_len) c.meet.ensures.within
    c.meet.ensures.last (c.meet-2.ensures (met_points views) profiles.counted behind)
