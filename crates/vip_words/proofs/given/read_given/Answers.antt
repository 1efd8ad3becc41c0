use Rattle.std.proofs.Common.{◌≡◌, sym, refl, Err, IsErrOf, drop}
use Rattle.clap.specs.Words.{found_of}
use Rattle.vip_words.specs.declared.given.Given.{Given}
use Rattle.vip_words.specs.declared.given.WordsFail.TheVariants.{Refused}
use Rattle.vip_words.proofs.Answered.{after_first, refused_give_none, taken_give, unknown_give_none}
use Rattle.vip_words.proofs.given.read_given.Goals as goal

pub returns-then-not-are_known-clause-refused : goal.returns-then-not-are_known-clause-refused
returns-then-not-are_known-clause-refused c = λ _.
    unknown_give_none c.args.usage.now (drop 1 c.args.words.now)
    (rw (after_first c.args.words.now) at (sym c.if-not-are_known.ensures))

pub returns-in-Err-clause-refused : goal.returns-in-Err-clause-refused
returns-in-Err-clause-refused c = λ (refused : IsErrOf {T = Given} (Err c.in-Err.fail) Refused).
    let same : c.in-Err.fail ≡ Refused = cc in
    refused_give_none c.args.usage.now _ c.args.words.now c.requires
    (rw (after_first c.args.words.now) at (sym c.if-not-are_known.ensures)) (c.in-Err.ensures.refused (rw same refl))

pub returns-clause-ok : goal.returns-clause-ok
returns-clause-ok c =
    taken_give c.args.usage.now _ c.args.words.now (found_of c.in-Ok.matches) _ c.requires
    (rw (after_first c.args.words.now) at (sym c.if-not-are_known.ensures)) c.in-Ok.ensures.taken c.in-Ok.ensures.rows
    (record {
      positional = c.positional_of.ensures;
      keys = c.get_str.ensures;
      has = λ flag. refl;
    })
