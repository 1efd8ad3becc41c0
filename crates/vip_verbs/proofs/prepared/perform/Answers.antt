use Rattle.vip_verbs.proofs.prepared.perform.Goals as goal

pub run_link-requires : goal.run_link-requires
run_link-requires g c = rw c.in-Link.is at c.requires

pub returns-in-Link : goal.returns-in-Link
returns-in-Link g c = rw c.in-Link.is c.run_link.ensures

pub perform_run-requires : goal.perform_run-requires
perform_run-requires g c = rw c.in-Run.is at c.requires

pub returns-in-Run : goal.returns-in-Run
returns-in-Run g c = rw c.in-Run.is c.perform_run.ensures

pub perform_program-requires : goal.perform_program-requires
perform_program-requires g c = rw c.in-Program.is at c.requires

pub returns-in-Program : goal.returns-in-Program
returns-in-Program g c = rw c.in-Program.is c.perform_program.ensures

pub perform_board-requires : goal.perform_board-requires
perform_board-requires g c = rw c.in-Resumed.is at c.requires

pub returns-in-Resumed : goal.returns-in-Resumed
returns-in-Resumed g c = rw c.in-Resumed.is c.perform_board.ensures

pub put_text-requires : goal.put_text-requires
put_text-requires g c = rw c.in-Text.is at c.requires

pub returns-in-Text : goal.returns-in-Text
returns-in-Text g c = rw c.in-Text.is c.put_text.ensures

pub put_told-requires : goal.put_told-requires
put_told-requires g c = rw c.in-Checked.is at c.requires

pub returns-in-Checked : goal.returns-in-Checked
returns-in-Checked g c = rw c.in-Checked.is c.put_told.ensures
