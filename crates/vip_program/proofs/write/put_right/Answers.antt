use Rattle.std.proofs.Common.{◌≤◌, ◌∙◌, length, arith}
use Rattle.vip_program.proofs.Texts.{short}
use Rattle.vip_program.proofs.write.put_right.Goals as goal

pub overflow_sub-text : goal.overflow_sub-text
overflow_sub-text c = short _ _ c.requires.few (c.as_bytes-text.ensures.value ∙ c.format.ensures.text)

pub put-requires : goal.put-requires
put-requires c =
    let few : length c.as_bytes-text.result.now ≤ 10 = short _ _ c.requires.few (c.as_bytes-text.ensures.value ∙ c.format.ensures.text) in
    omega (arith, few, c.put_blanks.ensures.len, c.requires.room)

pub returns-clause-len : goal.returns-clause-len
returns-clause-len c =
    let few : length c.as_bytes-text.result.now ≤ 10 = short _ _ c.requires.few (c.as_bytes-text.ensures.value ∙ c.format.ensures.text) in
    omega (arith, few, c.put_blanks.ensures.len, c.put.ensures.len)
