-- The value that the answer to `mg` shows is that of the item.
use Rattle.std.proofs.Common.{◌≡◌, inl, inr, ℕ, Bool, true, false, List, [], ◌++◌, ◌+◌, ◌-◌, length, take, drop, refl, ap, sym, ◌∙◌, Bor}
use Rattle.std.specs.Prelude.{nat_eq, if◌then◌else◌, codes, decimal, Option, None, Some, MatchOption, IfSome}
use Rattle.std.specs.Cmp.Lexicographic.{pointwise, same_text}
use Rattle.std.proofs.lemmas.List.{append_cancel_right, take-append-drop}
use Rattle.mc_calls.specs.declared.call_reply.CallReply.TheVariants.{Miss, Hit}
use Rattle.mc_meta.specs.Flags.{is_among}
use Rattle.mc_parse.specs.Saying.{a_found}
use Rattle.mc_reply.specs.Line.{line, line_end}
use Rattle.mc_reply.specs.MetaText.{has_quiet_letter, value_letter, marked, found_of}
use Rattle.mc_allows.specs.declared.said.Said.{Said}
use Rattle.mc_allows.specs.declared.said.Said.TheVariants.{Replied, Failed}
use Rattle.mc_allows.specs.declared.shown.Shown.TheVariants.{HitWith}
use Rattle.mc_allows.specs.Needs.{Suits}
use Rattle.mc_answers.specs.Answer.{IsUnless, IsMarked}
use Rattle.mc_answers.specs.Cut.{IsLine, IsOfLine, is_no_feed}
use Rattle.mc_answers.specs.Kinds.{IsMissLine}
use Rattle.mc_answers.proofs.CutLemmas.{lines_cut}
use Rattle.mc_answers.proofs.MarkLemmas.{found_is_line}
use Rattle.mc_answers.proofs.NumberLemmas.{append_passes, decimal_no_feed}
use Rattle.mc_shown.specs.Marked.{begins, EndsWithValue}

-- a text that begins so is not another one
otherwise : {Holds : Type 0} (text own : List ℕ) → begins (codes "VA ") text ≡ true → text ≡ own → begins (codes "VA ") own ≡ false → Holds
otherwise text own there is none = let e = sym there ∙ ap (begins (codes "VA ")) is ∙ none in absurd (cc)

missed : (key text value : List ℕ) (quiet : Bool) → begins (codes "VA ") text ≡ true → IsUnless quiet (IsMissLine key) text → Suits (HitWith value) (Replied Miss)
missed key text value true there is = otherwise text [] there is refl
missed key text value false there (inl is) = otherwise text (line (codes "EN")) there is refl
missed key text value false there (inr is) = otherwise text (line (codes "EN k" ++ key)) there is refl

hit : (key flags text value : List ℕ) (f u : ℕ) (v : List ℕ) (shows : Bool) → IsOfLine key → begins (codes "VA ") text ≡ true → EndsWithValue text value
    → text ≡ (if shows then marked (codes "VA " ++ decimal (length v)) key (Some (found_of f u v)) flags ++ line v else marked (codes "HD") key (Some (found_of f u v)) flags) → v ≡ value
hit key flags text value f u v false named there parts is = otherwise text (marked (codes "HD") key (Some (found_of f u v)) flags) there is refl
hit key flags text value f u v true named there parts is =
    let own = marked (codes "VA " ++ decimal (length v)) key (Some (found_of f u v)) flags in
    let own_is : IsLine own = found_is_line (codes "VA " ++ decimal (length v)) key f u v flags (append_passes is_no_feed (codes "VA ") (decimal (length v)) refl (decimal_no_feed (length v))) named in
    let rest : line v ≡ drop parts.length text = lines_cut own (take parts.length text) (line v) (drop parts.length text) own_is parts.first (sym is ∙ sym (take-append-drop parts.length text)) in
    append_cancel_right v value line_end (rest ∙ parts.rest)

pub value_suits : (key flags text value : List ℕ) → IsOfLine key → begins (codes "VA ") text ≡ true → EndsWithValue text value → (said : Said) → IsMarked a_found key flags text said → Suits (HitWith value) said
value_suits key flags text value named there parts (Replied (Hit f u v)) is = hit key flags text value f u v (is_among flags value_letter) named there parts is
value_suits key flags text value named there parts (Replied Miss) is = missed key text value (has_quiet_letter flags) there is
value_suits key flags text value named there parts (Replied reply) is = otherwise text [] there is refl
value_suits key flags text value named there parts Failed is = otherwise text _ there is.is refl

-- what is stripped of the rest of a text is its value
pub stripped : (text rest : List ℕ) (n : ℕ) → IsLine (take n text) → rest ≡ drop n text → (r : Option (Bor (List ℕ)))
    → MatchOption r (pointwise nat_eq (drop (length rest - length line_end) rest) line_end ≡ false)
    (λ x. (pointwise nat_eq (drop (length rest - length line_end) rest) line_end ≡ true) × (x.now ≡ take (length rest - length line_end) rest) × (length x.now + length line_end ≡ length rest))
    → IfSome r (λ x. EndsWithValue text x.now)
stripped text rest n one after None never = tt
stripped text rest n one after (Some x) is =
    let k = length rest - length line_end in
    let ends = same_text (drop k rest) line_end (sym is.0) in
    record { length = n; first = one; rest = sym after ∙ sym (take-append-drop k rest) ∙ ap (λ (t : List ℕ). t ++ drop k rest) (sym is.1) ∙ ap (λ (t : List ℕ). x.now ++ t) ends }
