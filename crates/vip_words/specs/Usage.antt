-- What the program holds of a row of the table.
use Rattle.std.specs.Prelude.{map}
use Rattle.vip_words.specs.Table as table
use Rattle.vip_words.specs.declared.table.Row.{Row}

abbrev pub row_of : Row → table.Row
row_of row = record {
  name = row.name.now;
  words = map (λ word. word.now) row.words.now;
  may_stand_alone = row.may_stand_alone;
  options = map (λ option. option.now) row.options.now;
  writes = row.writes.now;
  example = row.example.now;
  texts = row.texts.now;
}
