-- Answers to meta commands that are one line.
use Rattle.std.proofs.Common.{◌≡◌, ◌⊎◌, inl, inr, ℕ, ◌≤◌, Bool, true, false, List, [], ◌∷◌, ◌++◌, length, take, refl, ap, sym, ◌∙◌, subst, append_assoc}
use Rattle.std.specs.Prelude.{codes, None, Some, if◌then◌else◌}
use Rattle.mc_calls.specs.declared.call.Call.{Call}
use Rattle.mc_calls.specs.declared.call.Call.TheVariants as Calls
use Rattle.mc_calls.specs.declared.call_reply.CallReply.{CallReply}
use Rattle.mc_calls.specs.declared.call_reply.CallReply.TheVariants.{Miss, Hit, Stored, NotStored, Exists, NotFound, Deleted, TooLarge}
use Rattle.mc_calls.specs.Code.{call_kind}
use Rattle.mc_meta.specs.Flags.{is_among}
use Rattle.mc_parse.specs.declared.command.Command.TheVariants as Commands
use Rattle.mc_parse.specs.declared.meta.Meta.{Meta}
use Rattle.mc_parse.specs.declared.meta.Meta.TheVariants as Metas
use Rattle.mc_parse.specs.Saying.{a_found, a_stored, a_removed}
use Rattle.mc_reply.specs.Line.{line, line_end, too_large}
use Rattle.mc_reply.specs.MetaText.{has_quiet_letter, value_letter, marks_text, marked, found_of}
use Rattle.mc_allows.specs.Allows.{may_fail}
use Rattle.mc_allows.specs.declared.said.Said.{Said}
use Rattle.mc_allows.specs.declared.said.Said.TheVariants.{Replied, Failed}
use Rattle.mc_answers.specs.Answer.{IsUnless, IsSomeAnswer, IsCuttable, IsMarked, stores}
use Rattle.mc_answers.specs.Cut.{IsLine}
use Rattle.mc_answers.specs.Kinds.{IsLineWith, IsErrorLine, IsServerError, IsMissLine}
use Rattle.mc_answers.specs.Said.{IsOne, MaySay}
use Rattle.mc_answers.specs.Shape.{IsFoundText}
use Rattle.mc_answers.proofs.AnswerLemmas.{some_shaped}
use Rattle.mc_answers.proofs.CutLemmas.{lines_cut}
use Rattle.mc_kind.specs.First.{IsWhole, IsRefused}
use Rattle.mc_kind.specs.Marked.{shows_value, IsSet, IsCoded}
use Rattle.mc_kind.proofs.ListingLemmas.{some_error_first, no_error_first, first_text}
use Rattle.mc_kind.proofs.SeriesLemmas.{have_length}

-- ---- each answer is a line

pub meta_line : (meta : Meta) → IsCuttable (Commands.Meta meta) → shows_value meta ≡ false → (text : List ℕ) → IsSomeAnswer (Commands.Meta meta) text → IsLine text
meta_line Metas.Noop c hidden text one = some_shaped (Commands.Meta Metas.Noop) c text one
meta_line (Metas.Get key flags) c hidden text one = found_line (is_among flags value_letter) hidden (some_shaped (Commands.Meta (Metas.Get key flags)) c text one)
  where
    found_line : (shown : Bool) → shown ≡ false → IsFoundText shown key flags text → IsLine text
    found_line true is found = absurd (cc)
    found_line false is found = found
meta_line (Metas.Set key call marks) c hidden text one = some_shaped (Commands.Meta (Metas.Set key call marks)) c text one
meta_line (Metas.Delete key flags) c hidden text one = some_shaped (Commands.Meta (Metas.Delete key flags)) c text one

-- ---- codes

no_line : (text : List ℕ) → text ≡ [] → IsLine text → ⊥
no_line text none one = go one.body (sym one.is ∙ none)
  where
    go : (body : List ℕ) → body ++ 10 ∷ [] ≡ [] → ⊥
    go [] is = cc
    go (byte ∷ body) is = cc

-- a code and its marks
pub coded : (code marks text : List ℕ) → IsLine text → text ≡ line (code ++ marks) → IsLineWith code text
coded code marks text one is = record { line = one; rest = marks; is = is ∙ append_assoc code marks line_end }

second : (test : Bool) (x y text : List ℕ) → test ≡ false → text ≡ (if test then x else y) → text ≡ y
second true x y text is same = absurd (cc)
second false x y text is same = same

pub missed : (key text : List ℕ) → IsLine text → IsMissLine key text → IsLineWith (codes "EN") text
missed key text one (inl is) = record { line = one; rest = []; is = is }
missed key text one (inr is) = record { line = one; rest = codes " k" ++ key; is = is }

loud : (quiet : Bool) (key text : List ℕ) → quiet ≡ false → IsUnless quiet (IsMissLine key) text → IsMissLine key text
loud true key text is one = absurd (cc)
loud false key text is one = one

got_coded : (key flags text : List ℕ) (said : Said) → has_quiet_letter flags ≡ false → is_among flags value_letter ≡ false → IsLine text → MaySay (Calls.Get key) said → IsMarked a_found key flags text said
    → IsLineWith (codes "HD") text ⊎ IsLineWith (codes "EN") text
got_coded key flags text (Replied (Hit f u v)) plain hidden one may is =
    inl (coded (codes "HD") (marks_text key (Some (found_of f u v)) flags) text one (second (is_among flags value_letter) _ (marked (codes "HD") key (Some (found_of f u v)) flags) text hidden is))
got_coded key flags text (Replied Miss) plain hidden one may is = inr (missed key text one (loud (has_quiet_letter flags) key text plain is))
got_coded key flags text (Replied reply) plain hidden one may is = absurd may.0
got_coded key flags text Failed plain hidden one may is = absurd (cc)

deleted_coded : (key flags text : List ℕ) (said : Said) → has_quiet_letter flags ≡ false → IsLine text → MaySay (Calls.Delete key) said → IsMarked a_removed key flags text said
    → IsLineWith (codes "HD") text ⊎ IsLineWith (codes "NF") text
deleted_coded key flags text (Replied Deleted) plain one may is =
    inl (coded (codes "HD") (marks_text key None flags) text one (second (has_quiet_letter flags) [] (marked (codes "HD") key None flags) text plain is))
deleted_coded key flags text (Replied NotFound) plain one may is =
    inr (coded (codes "NF") (marks_text key None flags) text one (second (has_quiet_letter flags) [] (marked (codes "NF") key None flags) text plain is))
deleted_coded key flags text (Replied reply) plain one may is = absurd may.0
deleted_coded key flags text Failed plain one may is = absurd (cc)

set_coded : (key : List ℕ) (call : Call) (marks text : List ℕ) (said : Said) → has_quiet_letter marks ≡ false → IsLine text → IsMarked a_stored key marks text said
    → IsCoded (Metas.Set key call marks) text ⊎ IsServerError text
set_coded key call marks text (Replied Stored) plain one is =
    inl (inl (coded (codes "HD") (marks_text key None marks) text one (second (has_quiet_letter marks) [] (marked (codes "HD") key None marks) text plain is)))
set_coded key call marks text (Replied NotStored) plain one is = inl (inr (inl (coded (codes "NS") (marks_text key None marks) text one is)))
set_coded key call marks text (Replied Exists) plain one is = inl (inr (inr (inl (coded (codes "EX") (marks_text key None marks) text one is))))
set_coded key call marks text (Replied NotFound) plain one is = inl (inr (inr (inr (coded (codes "NF") (marks_text key None marks) text one is))))
set_coded key call marks text (Replied TooLarge) plain one is = inr (record { line = one; rest = codes " object too large for cache"; is = is })
set_coded key call marks text (Replied reply) plain one is = absurd (no_line text is one)
set_coded key call marks text Failed plain one is = inr is

-- each answer begins with such a code, or names a fault of the server
answer_coded : (meta : Meta) → IsCuttable (Commands.Meta meta) → shows_value meta ≡ false → (text : List ℕ) → IsLine text → IsSomeAnswer (Commands.Meta meta) text → IsCoded meta text ⊎ IsServerError text
answer_coded Metas.Noop c hidden text one answer = inl (record { line = one; rest = []; is = answer.answer.text })
answer_coded (Metas.Get key flags) c hidden text one answer = go answer.saids answer.answer.fit answer.answer.text
  where
    go : (saids : List Said) → IsOne (MaySay (Calls.Get key)) saids → IsOne (IsMarked a_found key flags text) saids → IsCoded (Metas.Get key flags) text ⊎ IsServerError text
    go [] may is = absurd may
    go (said ∷ []) may is = inl (got_coded key flags text said c.plain hidden one may is)
    go (said ∷ next ∷ saids) may is = absurd may
answer_coded (Metas.Set key call marks) c hidden text one answer = go answer.saids answer.answer.text
  where
    go : (saids : List Said) → IsOne (IsMarked a_stored key marks text) saids → IsCoded (Metas.Set key call marks) text ⊎ IsServerError text
    go [] is = absurd is
    go (said ∷ []) is = set_coded key call marks text said c.plain one is
    go (said ∷ next ∷ saids) is = absurd is
answer_coded (Metas.Delete key flags) c hidden text one answer = go answer.saids answer.answer.fit answer.answer.text
  where
    go : (saids : List Said) → IsOne (MaySay (Calls.Delete key)) saids → IsOne (IsMarked a_removed key flags text) saids → IsCoded (Metas.Delete key flags) text ⊎ IsServerError text
    go [] may is = absurd may
    go (said ∷ []) may is = inl (deleted_coded key flags text said c.plain one may is)
    go (said ∷ next ∷ saids) may is = absurd may

-- ---- the first line

pub meta_whole : (meta : Meta) (bytes : List ℕ) (n : ℕ) → IsCuttable (Commands.Meta meta) → shows_value meta ≡ false → n ≤ length bytes → IsLine (take n bytes)
    → (IsErrorLine (take n bytes) → IsSomeAnswer (Commands.Meta meta) (take n bytes)) → IsWhole (Commands.Meta meta) bytes n
meta_whole meta bytes n c hidden low is answers = record {
  low = low;
  long = λ text rest more answer same. have_length IsLine lines_cut bytes n low is text rest more (meta_line meta c hidden text answer) same;
  error = λ error. let whole = some_error_first bytes n is error in inr (subst (IsSomeAnswer (Commands.Meta meta)) whole (answers (subst IsErrorLine (sym whole) error)));
}

pub meta_refused : (meta : Meta) (bytes : List ℕ) (n : ℕ) → IsCuttable (Commands.Meta meta) → shows_value meta ≡ false → IsLine (take n bytes) → (IsCoded meta (take n bytes) → ⊥) → (IsErrorLine (take n bytes) → ⊥)
    → IsRefused (Commands.Meta meta) bytes
meta_refused meta bytes n c hidden is none no_error = record {
  none = λ text rest more answer same. let one = meta_line meta c hidden text answer in go text (first_text bytes n is text rest more one same) (answer_coded meta c hidden text one answer);
  error = no_error_first bytes n is no_error;
}
  where
    go : (text : List ℕ) → text ≡ take n bytes → IsCoded meta text ⊎ IsServerError text → ⊥
    go text there (inl coded_so) = none (subst (IsCoded meta) there coded_so)
    go text there (inr error) = no_error (subst IsErrorLine there (inr (inr error)))

-- ---- a server's own fault

stores_may_fail : (call : Call) → stores (call_kind call) ≡ true → may_fail call ≡ true
stores_may_fail (Calls.Set key flags value) is = refl
stores_may_fail (Calls.Add key flags value) is = refl
stores_may_fail (Calls.Replace key flags value) is = refl
stores_may_fail (Calls.Append key value) is = refl
stores_may_fail (Calls.Prepend key value) is = refl
stores_may_fail (Calls.Cas flags key unique value) is = refl
stores_may_fail call is = absurd (cc)

pub set_failed : (meta : Meta) (line : List ℕ) → IsCuttable (Commands.Meta meta) → IsSet meta → IsServerError line → IsSomeAnswer (Commands.Meta meta) line
set_failed (Metas.Set key call marks) line c is error = record { saids = Failed ∷ []; answer = record { fit = stores_may_fail call c.said.1; text = error } }
set_failed meta line c is error = absurd is
