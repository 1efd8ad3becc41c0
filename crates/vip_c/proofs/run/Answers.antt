use Rattle.std.proofs.Common.{map, refl}
use Rattle.std.specs.Prelude.{string_bytes}
use Rattle.vip_outside.specs.MemFiles as memory
use Rattle.vip_c.specs.Kept.{meaning_of}
use Rattle.vip_c.proofs.run.Goals as goal

pub returns-in_default : goal.returns-in_default
returns-in_default c given = (rw c.in_default.is at c.in_ok-words.ensures) given.words_are given.are_words

pub returns-in_default-2 : goal.returns-in_default-2
returns-in_default-2 c given = (rw c.in_default-2.is at c.in_ok-files.ensures) given.files_are given.are_files

pub returns : goal.returns
returns c =
    let found = rw c.in-Some-2.is at c.in_ok-files.ensures in
    record {
      given =
          record {
            words_are = map string_bytes c.in-Some.words.items;
            files_are = found.0;
            are_words = rw c.in-Some.is at c.in_ok-words.ensures;
            are_files = found.1;
          };
      files' = memory.meaning_of c.run_words-status.new.files;
      out' = meaning_of c.run_words-status.new.out;
      err' = meaning_of c.run_words-status.new.err;
      promises = rw (c.as_slice.ensures.value, found.2, c.new-out.ensures, c.new-err.ensures) at c.run_words-status.ensures;
      out_is = refl;
      err_is = refl;
    }
