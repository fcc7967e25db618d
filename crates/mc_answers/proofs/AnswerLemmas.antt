-- The answers to each command have its shape, and are cut in one way.
use Rattle.std.proofs.Common.{◌≡◌, inl, inr, ℕ, zero, suc, Bool, true, false, List, [], ◌∷◌, ◌++◌, length, take, refl, ap, sym, ◌∙◌, subst, append_assoc, arith}
use Rattle.std.specs.Prelude.{codes}
use Rattle.std.specs.List.{concat, AllByRecursion, All, Contains}
use Rattle.std.proofs.lemmas.List.{append-nil, append_cancel_left}
use Rattle.std.proofs.lemmas.List.Sorted.{All-permutation}
use Rattle.mc_calls.specs.declared.call.Call.TheVariants as Calls
use Rattle.mc_calls.specs.declared.call_reply.CallReply.TheVariants.{Hit}
use Rattle.mc_meta.specs.Flags.{is_among}
use Rattle.mc_parse.specs.declared.command.Command.{Command}
use Rattle.mc_parse.specs.declared.command.Command.TheVariants.{Store, Cas, Get, Delete, Count, Version, Verbosity, Flush, Fault, Meta}
use Rattle.mc_parse.specs.declared.command.Command.TheVariants as Commands
use Rattle.mc_parse.specs.declared.meta.Meta.TheVariants as Metas
use Rattle.mc_parse.specs.declared.verb.Verb.TheVariants as Verbs
use Rattle.mc_parse.specs.Deed.{says_of}
use Rattle.mc_parse.specs.Saying.{Fixed, the_version, is_done, does_noop, has_fault}
use Rattle.mc_reply.specs.MetaText.{value_letter}
use Rattle.mc_reply.specs.Text.{line}
use Rattle.mc_allows.specs.declared.said.Said.{Said}
use Rattle.mc_allows.specs.declared.said.Said.TheVariants.{Replied, Failed}
use Rattle.mc_answers.specs.Answer.{IsUnless, IsFixedLine, found_items, IsListing, IsAnswer, IsSomeAnswer, AreSomeAnswers, IsFromLine, IsCuttable}
use Rattle.mc_answers.specs.Cut.{AreCut, AreApart, IsLine, IsSeries}
use Rattle.mc_answers.specs.Kinds.{IsLineWith, IsItemText, IsEndText}
use Rattle.mc_answers.specs.Said.{AreGot}
use Rattle.mc_answers.specs.Shape.{IsShaped}
use Rattle.mc_answers.proofs.CutLemmas.{lines_cut, series_cut, same_texts, no_beginning}
use Rattle.mc_answers.proofs.ItemLemmas.{item_cut, end_cut, item_is_no_end, heads_differ}
use Rattle.mc_answers.proofs.MarkLemmas.{line_is}
use Rattle.mc_answers.proofs.MetaLemmas.{found_cut, found_shaped, removed_shaped}
use Rattle.mc_answers.proofs.ReplyLemmas.{reply_shaped, set_shaped}

-- ---- lists

pub by_index : {X : Type 0} (P : X → Type 0) (xs : List X) → AllByRecursion P xs → All P xs
by_index P [] each k d low = absurd (omega arith)
by_index P (x ∷ xs) each zero d low = each.0
by_index P (x ∷ xs) each (suc k) d low = by_index P xs each.1 k d (omega arith)

pub by_recursion : {X : Type 0} (P : X → Type 0) (xs : List X) → All P xs → AllByRecursion P xs
by_recursion P [] each = tt
by_recursion P (x ∷ xs) each = (each 0 x (omega arith), by_recursion P xs (λ k d low. each (suc k) d (omega arith)))

-- ---- items

later : (first : List ℕ) (keys : List (List ℕ)) (key : List ℕ) → Contains keys key → Contains (first ∷ keys) key
later first keys key (k, low, is) = (suc k, omega arith, is)

-- what was found is of one of the keys
pub found_each : (asked : Bool) (whole keys : List (List ℕ)) (saids : List Said) → ((key : List ℕ) → Contains keys key → Contains whole key) → AreGot keys saids
    → AllByRecursion (IsItemText asked whole) (found_items asked keys saids)
found_each asked whole [] [] within got = tt
found_each asked whole [] (said ∷ saids) within got = absurd got
found_each asked whole (key ∷ keys) [] within got = absurd got
found_each asked whole (key ∷ keys) (Replied (Hit flags unique value) ∷ saids) within got = (
  record {
    key = key;
    flags = flags;
    unique = unique;
    value = value;
    among = within key (0, omega arith, refl);
    few = got.0.2.0.0;
    small = got.0.2.0.1;
    fits = got.0.1;
    is = refl;
  },
  found_each asked whole keys saids (λ other there. within other (later key keys other there)) got.1,
)
found_each asked whole (key ∷ keys) (Replied reply ∷ saids) within got = found_each asked whole keys saids (λ other there. within other (later key keys other there)) got.1
found_each asked whole (key ∷ keys) (Failed ∷ saids) within got = found_each asked whole keys saids (λ other there. within other (later key keys other there)) got.1

listing_shaped : (asked : Bool) (keys : List (List ℕ)) (saids : List Said) (text : List ℕ) → AreGot keys saids → IsListing (found_items asked keys saids) text → IsSeries (IsItemText asked keys) IsEndText text
listing_shaped asked keys saids text got one = record {
  items = one.items;
  last = line (codes "END");
  each = by_recursion (IsItemText asked keys) one.items
      (All-permutation (IsItemText asked keys) (found_items asked keys saids) one.items one.order (by_index (IsItemText asked keys) (found_items asked keys saids) (found_each asked keys keys saids (λ key there. there) got)));
  «end» = refl;
  is = one.is;
}

-- ---- lines

fixed_shaped : (fixed : Fixed) (text : List ℕ) → IsFixedLine fixed text → IsLine text
fixed_shaped the_version text one = one.line
fixed_shaped is_done text one = subst IsLine (sym one) (line_is (codes "OK") refl)
fixed_shaped does_noop text one = subst IsLine (sym one) (line_is (codes "MN") refl)
fixed_shaped (has_fault fault) text (inl one) = one.line
fixed_shaped (has_fault fault) text (inr (inl one)) = one.line
fixed_shaped (has_fault fault) text (inr (inr one)) = one.line

unless_shaped : (fixed : Fixed) (quiet : Bool) (text : List ℕ) → IsUnless quiet (IsFixedLine fixed) text → IsUnless quiet IsLine text
unless_shaped fixed true text one = one
unless_shaped fixed false text one = fixed_shaped fixed text one

unless_cut : (quiet : Bool) → AreCut (IsUnless quiet IsLine)
unless_cut true a b more other one two same = append_cancel_left [] more other (ap (λ (t : List ℕ). t ++ more) (sym one) ∙ same ∙ ap (λ (t : List ℕ). t ++ other) two)
unless_cut false a b more other one two same = lines_cut a b more other one two same

-- ---- counts

line_with_cut : (front : List ℕ) → AreCut (IsLineWith front)
line_with_cut front a b more other one two same = lines_cut a b more other one.line two.line same

stat_is_no_end : AreApart (IsLineWith (codes "STAT ")) IsEndText
stat_is_no_end a b more other one two same =
    heads_differ 83 69 (codes "TAT " ++ ((one.rest ++ (13 ∷ 10 ∷ [])) ++ more)) (codes "ND\r\n" ++ other) refl
    (ap (λ (t : List ℕ). t ++ more) (sym one.is) ∙ same ∙ ap (λ (t : List ℕ). t ++ other) two)

-- ---- shapes

-- each answer to a command has its shape
pub answer_shaped : (command : Command) → IsCuttable command → (saids : List Said) (text : List ℕ) → IsAnswer command saids text → IsShaped (says_of command) text
answer_shaped (Store Verbs.Set key flags value quiet) c saids text one = reply_shaped (Calls.Set key flags value) refl quiet saids text one.fit one.text
answer_shaped (Store Verbs.Add key flags value quiet) c saids text one = reply_shaped (Calls.Add key flags value) refl quiet saids text one.fit one.text
answer_shaped (Store Verbs.Replace key flags value quiet) c saids text one = reply_shaped (Calls.Replace key flags value) refl quiet saids text one.fit one.text
answer_shaped (Store Verbs.Append key flags value quiet) c saids text one = reply_shaped (Calls.Append key value) refl quiet saids text one.fit one.text
answer_shaped (Store Verbs.Prepend key flags value quiet) c saids text one = reply_shaped (Calls.Prepend key value) refl quiet saids text one.fit one.text
answer_shaped (Cas key flags unique value quiet) c saids text one = reply_shaped (Calls.Cas flags key unique value) refl quiet saids text one.fit one.text
answer_shaped (Get keys unique) c saids text one = listing_shaped unique keys saids text one.fit one.text
answer_shaped (Delete key quiet) c saids text one = reply_shaped (Calls.Delete key) refl quiet saids text one.fit one.text
answer_shaped (Count key true amount quiet) c saids text one = reply_shaped (Calls.Incr key amount) refl quiet saids text one.fit one.text
answer_shaped (Count key false amount quiet) c saids text one = reply_shaped (Calls.Decr key amount) refl quiet saids text one.fit one.text
answer_shaped Version c saids text one = unless_shaped the_version false text one.text
answer_shaped Commands.Stats c saids text one = one.text
answer_shaped (Verbosity quiet) c saids text one = unless_shaped is_done quiet text one.text
answer_shaped (Flush quiet) c saids text one = unless_shaped is_done quiet text one.text
answer_shaped (Fault fault quiet) c saids text one = unless_shaped (has_fault fault) quiet text one.text
answer_shaped (Meta Metas.Noop) c saids text one = unless_shaped does_noop false text one.text
answer_shaped (Meta (Metas.Get key flags)) c saids text one = found_shaped key flags saids text c.said c.plain one.fit one.text
answer_shaped (Meta (Metas.Set key (Calls.Set k flags value) marks)) c saids text one = set_shaped (Calls.Set k flags value) key marks saids text refl c.said.0 c.plain one.fit one.text
answer_shaped (Meta (Metas.Set key (Calls.Add k flags value) marks)) c saids text one = set_shaped (Calls.Add k flags value) key marks saids text refl c.said.0 c.plain one.fit one.text
answer_shaped (Meta (Metas.Set key (Calls.Replace k flags value) marks)) c saids text one = set_shaped (Calls.Replace k flags value) key marks saids text refl c.said.0 c.plain one.fit one.text
answer_shaped (Meta (Metas.Set key (Calls.Append k value) marks)) c saids text one = set_shaped (Calls.Append k value) key marks saids text refl c.said.0 c.plain one.fit one.text
answer_shaped (Meta (Metas.Set key (Calls.Prepend k value) marks)) c saids text one = set_shaped (Calls.Prepend k value) key marks saids text refl c.said.0 c.plain one.fit one.text
answer_shaped (Meta (Metas.Set key (Calls.Cas flags k unique value) marks)) c saids text one = set_shaped (Calls.Cas flags k unique value) key marks saids text refl c.said.0 c.plain one.fit one.text
answer_shaped (Meta (Metas.Set key call marks)) c saids text one = let s = c.said.1 in absurd (cc)
answer_shaped (Meta (Metas.Delete key flags)) c saids text one = removed_shaped key flags saids text c.said c.plain one.fit one.text

pub some_shaped : (command : Command) → IsCuttable command → (text : List ℕ) → IsSomeAnswer command text → IsShaped (says_of command) text
some_shaped command c text one = answer_shaped command c one.saids text one.answer

-- the texts of this shape are cut in one way
pub shape_cut : (command : Command) → IsFromLine command → AreCut (IsShaped (says_of command))
shape_cut (Store verb key flags value quiet) said a b more other one two same = unless_cut quiet a b more other one two same
shape_cut (Cas key flags unique value quiet) said a b more other one two same = unless_cut quiet a b more other one two same
shape_cut (Get keys unique) said a b more other one two same =
    series_cut (IsItemText unique keys) IsEndText (item_cut unique keys said) end_cut (item_is_no_end unique keys) a b more other one two same
shape_cut (Delete key quiet) said a b more other one two same = unless_cut quiet a b more other one two same
shape_cut (Count key up amount quiet) said a b more other one two same = unless_cut quiet a b more other one two same
shape_cut Version said a b more other one two same = lines_cut a b more other one two same
shape_cut Commands.Stats said a b more other one two same =
    series_cut (IsLineWith (codes "STAT ")) IsEndText (line_with_cut (codes "STAT ")) end_cut stat_is_no_end a b more other one two same
shape_cut (Verbosity quiet) said a b more other one two same = unless_cut quiet a b more other one two same
shape_cut (Flush quiet) said a b more other one two same = unless_cut quiet a b more other one two same
shape_cut (Fault fault quiet) said a b more other one two same = unless_cut quiet a b more other one two same
shape_cut (Meta Metas.Noop) said a b more other one two same = lines_cut a b more other one two same
shape_cut (Meta (Metas.Get key flags)) said a b more other one two same = found_cut (is_among flags value_letter) key flags said a b more other one two same
shape_cut (Meta (Metas.Set key call marks)) said a b more other one two same = lines_cut a b more other one two same
shape_cut (Meta (Metas.Delete key flags)) said a b more other one two same = lines_cut a b more other one two same

-- ---- answers

-- the answers to a command are cut in one way
pub answer_cut : (command : Command) → IsCuttable command → AreCut (IsSomeAnswer command)
answer_cut command c a b more other one two same = shape_cut command c.said a b more other (some_shaped command c a one) (some_shaped command c b two) same

-- the answers to commands, joined, are cut in one way
pub answers_cut : (commands : List Command) (texts others : List (List ℕ)) (more other : List ℕ) → AllByRecursion IsCuttable commands → AreSomeAnswers commands texts → AreSomeAnswers commands others
    → concat texts ++ more ≡ concat others ++ other → (texts ≡ others) × (more ≡ other)
answers_cut [] [] [] more other each one two same = (refl, same)
answers_cut [] (t ∷ texts) others more other each one two same = absurd one
answers_cut [] [] (o ∷ others) more other each one two same = absurd two
answers_cut (command ∷ commands) [] others more other each one two same = absurd one
answers_cut (command ∷ commands) (t ∷ texts) [] more other each one two same = absurd two
answers_cut (command ∷ commands) (t ∷ texts) (o ∷ others) more other each one two same =
    let whole : t ++ (concat texts ++ more) ≡ o ++ (concat others ++ other) = sym (append_assoc t (concat texts) more) ∙ same ∙ append_assoc o (concat others) other in
    let first : t ≡ o = same_texts (IsSomeAnswer command) (answer_cut command each.0) t o (concat texts ++ more) (concat others ++ other) one.0 two.0 whole in
    let rest = answers_cut commands texts others more other each.1 one.1 two.1 (answer_cut command each.0 t o (concat texts ++ more) (concat others ++ other) one.0 two.0 whole) in
    let after : texts ≡ others = rest.0 in
    (cc, rest.1)

pub answer_free : (command : Command) → IsCuttable command → (a b more : List ℕ) → IsSomeAnswer command a → IsSomeAnswer command b → a ++ more ≡ b → more ≡ []
answer_free command c = no_beginning (IsSomeAnswer command) (answer_cut command c)

-- the answers to the first commands are the first answers
pub answers_first : (front back : List Command) (texts others : List (List ℕ)) (more other : List ℕ) → AllByRecursion IsCuttable (front ++ back) → AreSomeAnswers front texts
    → AreSomeAnswers (front ++ back) others → concat texts ++ more ≡ concat others ++ other → take (length front) others ≡ texts
answers_first [] back [] others more other each one two same = refl
answers_first [] back (t ∷ texts) others more other each one two same = absurd one
answers_first (command ∷ front) back [] others more other each one two same = absurd one
answers_first (command ∷ front) back (t ∷ texts) [] more other each one two same = absurd two
answers_first (command ∷ front) back (t ∷ texts) (o ∷ others) more other each one two same =
    let whole : t ++ (concat texts ++ more) ≡ o ++ (concat others ++ other) = sym (append_assoc t (concat texts) more) ∙ same ∙ append_assoc o (concat others) other in
    let first : t ≡ o = same_texts (IsSomeAnswer command) (answer_cut command each.0) t o (concat texts ++ more) (concat others ++ other) one.0 two.0 whole in
    let after : take (length front) others ≡ texts =
    answers_first front back texts others more other each.1 one.1 two.1 (answer_cut command each.0 t o (concat texts ++ more) (concat others ++ other) one.0 two.0 whole) in
    cc

-- ---- the last answer may be cut short

end_of : (a b : List ℕ) → a ++ b ≡ [] → b ≡ []
end_of [] b none = none
end_of (x ∷ a) b none = absurd (cc)

-- a proper beginning of an answer goes on after no answer
pub short_end : (command : Command) → IsCuttable command → (whole text part after missing : List ℕ) → IsSomeAnswer command whole → IsSomeAnswer command text → part ++ missing ≡ whole → part ≡ text ++ after
    → missing ≡ []
short_end command c whole text part after missing one two of_whole of_part =
    end_of after missing
    (
    answer_cut command c text whole (after ++ missing) [] two one
    (sym (append_assoc text after missing) ∙ ap (λ (t : List ℕ). t ++ missing) (sym of_part) ∙ of_whole ∙ sym (append-nil whole))
    )
