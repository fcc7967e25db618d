use Rattle.std.proofs.Common.{ℕ, List, ◌∷◌, ◌∙◌, ap}
use Rattle.std.proofs.lemmas.List.{append-nil}
use Rattle.zy_base.proofs.WritingLemmas.{writes_as}
use Rattle.zy_pcap.specs.Texts.{start_text}
use Rattle.zy_pcap.proofs.writing.write_start.Goals as goal

pub returns : goal.returns
unfolding start_text
returns g c = record {
  writes = writes_as (ap (λ (l : List ℕ). 90 ∷ 89 ∷ 71 ∷ 67 ∷ 65 ∷ 80 ∷ 50 ∷ 10 ∷ l) (append-nil c.to_be_bytes-count.result ∙ c.to_be_bytes-count.ensures))
      c.write_pieces.ensures.writes;
}
