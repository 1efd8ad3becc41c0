use Rattle.vip_byte.proofs.TextLemmas.{lines_split, lines_whole}
use Rattle.vip_byte.proofs.line.first_line.Goals as goal

pub returns-in-empty : goal.returns-in-empty
returns-in-empty c =
    let cut = c.split_at.ensures in
    lines_whole c.args.text.now c.split_at.result.0.now c.split_at.result.1.now c.line_len.result c.line_len.ensures.end c.requires
    cut.front cut.back_len c.in-empty.len_below

pub returns-in-len1-up : goal.returns-in-len1-up
returns-in-len1-up c =
    let cut = c.split_at.ensures in
    rw c.without_return.ensures
    (lines_split c.args.text.now c.split_at.result.0.now c.split_at.result.1.now c.line_len.result c.line_len.ensures.end cut.front
    cut.back cut.back_len c.in-len1-up.len_at_least)
