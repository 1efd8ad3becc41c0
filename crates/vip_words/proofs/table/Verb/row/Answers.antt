use Rattle.std.proofs.Common.{◌≡◌}
use Rattle.vip_words.specs.Table.{Row, row}
use Rattle.vip_words.proofs.table.Verb.row.Goals as goal

-- rows with the same fields are one
same_row : (r s : Row) → r.name ≡ s.name → r.words ≡ s.words → r.may_stand_alone ≡ s.may_stand_alone → r.options ≡ s.options → r.writes ≡ s.writes
    → r.example ≡ s.example → r.texts ≡ s.texts → r ≡ s
same_row r s name words alone options writes example texts = λ i. record {
  name = name i;
  words = words i;
  may_stand_alone = alone i;
  options = options i;
  writes = writes i;
  example = example i;
  texts = texts i;
}

pub returns : goal.returns
returns c =
    same_row _ (row c.args.self) c.name.ensures c.words.ensures.names c.may_stand_alone.ensures c.options.ensures.names c.writes.ensures c.example.ensures
    c.texts.ensures
