use Rattle.zy_base.proofs.NumberLemmas.{number_of-decimal}
use Rattle.shard_laws.proofs.numbers.digits_are_read_back.Goals as goal

pub returns : goal.returns
returns c = record { value = number_of-decimal }
