use Rattle.vip_program.proofs.Counting.{counted-first}
use Rattle.vip_program.proofs.counts.Counts.meet_first.Goals as goal

pub returns : goal.returns
returns c counted =
    counted-first c.args.self.now c.arrive.new.self c.behind-self.result c.args.point counted
    c.behind-self.ensures.next c.behind-self.ensures.framed c.behind-self.ensures.few c.arrive.ensures.frames c.arrive.ensures.steps
    c.arrive.ensures.count c.arrive.ensures.first c.arrive.ensures.last
