-- The law of a target, for a machine that runs a game. The proof stands here, and not in proofs/, since the `impl` of a trait takes its laws
-- from specs/ alone.
use Rattle.std.proofs.Common.{◌≡◌, ◌∙◌, ℕ, ◌+◌, arith}
use Rattle.vip_debug.specs.declared.game.Game.{Game}
use Rattle.vip_debug.specs.Game.{Leads}

-- the borrow of the machine stays
abbrev pub GameLeads : ℕ → Game → Game → Type 0
GameLeads moves old new = (new.vip.ghost_name ≡ old.vip.ghost_name) × Leads moves old.vip.now new.vip.now

pub leads-on : (j k : ℕ) (a b c : Game) → GameLeads j a b → GameLeads k b c → GameLeads (j + k) a c
leads-on j k a b c first second = (
  second.0 ∙ first.0,
  record {
    same =
        record {
          edition = second.1.same.edition ∙ first.1.same.edition;
          start = second.1.same.start ∙ first.1.same.start;
          script = second.1.same.script ∙ first.1.same.script;
        };
    made = omega (arith, second.1.made, first.1.made);
    met = second.1.met;
  },
)
