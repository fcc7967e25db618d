use Rattle.std.proofs.Common.{subst, arith}
use Rattle.memchr.specs.Find.{IsFirstByte, is_byte2}
use Rattle.mc_kind.proofs.ListingLemmas.{word_found}
use Rattle.mc_kind.proofs.keys.is_word.Goals as goal

pub returns-in-None : goal.returns-in-None
returns-in-None c = record {
  value = λ is. let nowhere = subst (IsFirstByte (is_byte2 32 10) c.args.key.now) c.in-None.is c.memchr2.ensures in word_found c.args.key.now (λ k low there. nowhere k (omega arith) low there);
}
