-- An output has one cut.
use Rattle.std.proofs.Common.{◌≡◌, ◌⊎◌, inl, inr, ℕ, suc, List, [], ◌∷◌, ◌++◌, drop, refl, ap, sym, ◌∙◌, subst, append_assoc, arith, add-one}
use Rattle.std.specs.List.{concat, AllByRecursion}
use Rattle.std.proofs.lemmas.List.{append-nil, append_cancel_left}
use Rattle.mc_parse.specs.declared.command.Command.{Command}
use Rattle.mc_allows.specs.declared.said.Said.{Said}
use Rattle.mc_answers.specs.Answer.{IsAnswer, IsSomeAnswer, IsCuttable}
use Rattle.mc_answers.specs.Kinds.{IsErrorLine}
use Rattle.mc_answers.specs.Output.{Cut, BeginsAnswer, FitsText, IsOverLine, IsCut}
use Rattle.mc_answers.proofs.AnswerLemmas.{answer_cut}
use Rattle.mc_answers.proofs.CutLemmas.{same_texts}
use Rattle.mc_answers.proofs.ErrorLemmas.{answer_there}

-- ---- a cut with these parts

pub cut_of : List (List ℕ) → List ℕ → Cut
cut_of texts left = record { texts = texts; left = left }

-- the cut of the later commands
later_fits : (text : List ℕ) (texts : List (List ℕ)) (left : List ℕ) (i : ℕ) (command : Command) (saids : List Said)
    → FitsText (cut_of (text ∷ texts) left) (suc i) command saids → FitsText (cut_of texts left) i command saids
unfolding cut_of
later_fits text texts left i command saids (inl answer) = inl answer
later_fits text texts left i command saids (inr (last, rest)) =
    let after : concat (drop (suc (suc i)) (text ∷ texts)) ≡ [] = subst (λ (n : ℕ). concat (drop n (text ∷ texts)) ≡ []) (add-one (suc i)) last in
    let before : concat (drop (suc i) texts) ≡ [] = after in
    inr (rw (add-one i) before, rest)

pub later_cut : (command : Command) (commands : List Command) (output text : List ℕ) (texts : List (List ℕ)) (left : List ℕ) → IsCut (command ∷ commands) output (cut_of (text ∷ texts) left)
    → IsCut commands (concat texts ++ left) (cut_of texts left)
unfolding cut_of
later_cut command commands output text texts left c = record {
  size = omega (arith, c.size);
  whole = refl;
  each = λ i other there. let one = c.each (suc i) other there in record { saids = one.saids; text = later_fits text texts left i other one.saids one.text };
  over = go c.over;
}
  where
    go : (left ≡ []) ⊎ IsOverLine (command ∷ commands) (cut_of (text ∷ texts) left) → (left ≡ []) ⊎ IsOverLine commands (cut_of texts left)
    go (inl none) = inl none
    go (inr over) = inr (record {
      line = over.line;
      nobody = λ i other there last empty.
          let before : concat (drop (suc i) texts) ≡ [] = subst (λ (n : ℕ). concat (drop n texts) ≡ []) (add-one i) last in
          let after : concat (drop (suc (suc i)) (text ∷ texts)) ≡ [] = before in
          over.nobody (suc i) other there (rw (add-one (suc i)) after) empty;
    })

-- ---- the first text

-- what is left answers no command, if the first of these has no byte
IsOver : Command → List ℕ → List (List ℕ) → List ℕ → Type 0
IsOver command text texts left = (left ≡ []) ⊎ (IsErrorLine left × (concat texts ≡ [] → text ≡ [] → IsSomeAnswer command left → ⊥))

over_first : (command : Command) (commands : List Command) (text : List ℕ) (texts : List (List ℕ)) (left : List ℕ)
    → (left ≡ []) ⊎ IsOverLine (command ∷ commands) (cut_of (text ∷ texts) left) → IsOver command text texts left
unfolding cut_of IsOver
over_first command commands text texts left (inl none) = inl none
over_first command commands text texts left (inr over) = inr (over.line, λ last empty. over.nobody 0 command refl last empty)

-- what is found of the first command
Same : List ℕ → List (List ℕ) → List ℕ → List ℕ → List (List ℕ) → List ℕ → Type 0
Same t ts left o os more = (t ≡ o) × (concat ts ++ left ≡ concat os ++ more)

turned : (t o left more : List ℕ) (ts os : List (List ℕ)) → Same t ts left o os more → Same o os more t ts left
unfolding Same
turned t o left more ts os both = (sym both.0, sym both.1)

nothing_after : (a b : List ℕ) → a ++ b ≡ [] → b ≡ []
nothing_after [] b none = none
nothing_after (x ∷ a) b none = absurd (cc)

nothing_before : (a b : List ℕ) → a ++ b ≡ [] → a ≡ []
nothing_before [] b none = refl
nothing_before (x ∷ a) b none = absurd (cc)

no_text : (a b : List ℕ) → a ≡ [] → a ++ b ≡ b
no_text a b none = ap (λ (l : List ℕ). l ++ b) none

-- an answer, against a missing one
missing_same : (command : Command) → IsCuttable command → (t o left more : List ℕ) (ts os : List (List ℕ)) → IsSomeAnswer command t → t ++ (concat ts ++ left) ≡ o ++ (concat os ++ more)
    → concat os ≡ [] → o ≡ [] → IsOver command o os more → Same t ts left o os more
unfolding Same IsOver
missing_same command c t o left more ts os answer same last empty (inl none) =
    let rest : concat os ++ more ≡ [] = no_text (concat os) more last ∙ none in
    let all : t ++ (concat ts ++ left) ≡ [] = same ∙ no_text o (concat os ++ more) empty ∙ rest in
    (nothing_before t (concat ts ++ left) all ∙ sym empty, nothing_after t (concat ts ++ left) all ∙ sym rest)
missing_same command c t o left more ts os answer same last empty (inr (line, nobody)) =
    let all : t ++ (concat ts ++ left) ≡ more = same ∙ no_text o (concat os ++ more) empty ∙ no_text (concat os) more last in
    go (answer_there command c t (concat ts ++ left) more [] answer line (all ∙ sym (append-nil more))) all
  where
    go : (t ≡ []) ⊎ (t ≡ more) → t ++ (concat ts ++ left) ≡ more → (t ≡ o) × (concat ts ++ left ≡ concat os ++ more)
    go (inl none) all = (none ∙ sym empty, sym (no_text t (concat ts ++ left) none) ∙ all ∙ sym (no_text (concat os) more last))
    go (inr there) all = absurd (nobody last empty (subst (IsSomeAnswer command) there answer))

-- an answer, against one that is cut short
short_never : (command : Command) → IsCuttable command → (t o left more : List ℕ) (ts os : List (List ℕ)) (saids : List Said) → IsSomeAnswer command t → t ++ (concat ts ++ left) ≡ o ++ (concat os ++ more)
    → concat os ≡ [] → more ≡ [] → BeginsAnswer command saids o → ⊥
short_never command c t o left more ts os saids answer same last none begins =
    let rest : concat os ++ more ≡ [] = no_text (concat os) more last ∙ none in
    let all : t ++ (concat ts ++ left) ≡ o = same ∙ ap (λ (l : List ℕ). o ++ l) rest ∙ append-nil o in
    let whole : IsSomeAnswer command (o ++ begins.missing) = record { saids = saids; answer = begins.whole } in
    begins.some (nothing_after (concat ts ++ left) begins.missing
    (
    answer_cut command c t (o ++ begins.missing) ((concat ts ++ left) ++ begins.missing) [] answer whole
    (sym (append_assoc t (concat ts ++ left) begins.missing) ∙ ap (λ (l : List ℕ). l ++ begins.missing) all ∙ sym (append-nil (o ++ begins.missing)))
    ))

-- a missing answer, against one that is cut short
cut_same : (command : Command) → IsCuttable command → (t o left more : List ℕ) (ts os : List (List ℕ)) (saids : List Said) → t ++ (concat ts ++ left) ≡ o ++ (concat os ++ more)
    → concat ts ≡ [] → t ≡ [] → IsOver command t ts left → concat os ≡ [] → more ≡ [] → BeginsAnswer command saids o → Same t ts left o os more
unfolding Same IsOver
cut_same command c t o left more ts os saids same last empty (inl none) last_too none_too begins =
    let rest : concat os ++ more ≡ [] = no_text (concat os) more last_too ∙ none_too in
    let here : concat ts ++ left ≡ [] = no_text (concat ts) left last ∙ none in
    let all : o ≡ [] = sym (append-nil o) ∙ ap (λ (l : List ℕ). o ++ l) (sym rest) ∙ sym same ∙ no_text t (concat ts ++ left) empty ∙ here in
    (empty ∙ sym all, here ∙ sym rest)
cut_same command c t o left more ts os saids same last empty (inr (line, nobody)) last_too none_too begins =
    let rest : concat os ++ more ≡ [] = no_text (concat os) more last_too ∙ none_too in
    let there : left ≡ o = sym (no_text (concat ts) left last) ∙ sym (no_text t (concat ts ++ left) empty) ∙ same ∙ ap (λ (l : List ℕ). o ++ l) rest ∙ append-nil o in
    let whole : IsSomeAnswer command (o ++ begins.missing) = record { saids = saids; answer = begins.whole } in
    absurd (begins.some (go there (answer_there command c (o ++ begins.missing) [] left begins.missing whole line (append-nil (o ++ begins.missing) ∙ ap (λ (l : List ℕ). l ++ begins.missing) (sym there)))))
  where
    go : left ≡ o → (o ++ begins.missing ≡ []) ⊎ (o ++ begins.missing ≡ left) → begins.missing ≡ []
    go there (inl none) = nothing_after o begins.missing none
    go there (inr is) = append_cancel_left o begins.missing [] (is ∙ there ∙ sym (append-nil o))

some_answer : (command : Command) (saids : List Said) (t : List ℕ) → IsAnswer command saids t → IsSomeAnswer command t
some_answer command saids t one = record { saids = saids; answer = one }

same_first : (command : Command) → IsCuttable command → (t o left more : List ℕ) (ts os : List (List ℕ)) (saids others : List Said) → t ++ (concat ts ++ left) ≡ o ++ (concat os ++ more)
    → FitsText (cut_of (t ∷ ts) left) 0 command saids → FitsText (cut_of (o ∷ os) more) 0 command others → IsOver command t ts left → IsOver command o os more → Same t ts left o os more
unfolding cut_of Same
same_first command c t o left more ts os saids others same (inl one) (inl two) over over_too =
    let a = some_answer command saids t one in
    let b = some_answer command others o two in
    (same_texts (IsSomeAnswer command) (answer_cut command c) t o (concat ts ++ left) (concat os ++ more) a b same, answer_cut command c t o (concat ts ++ left) (concat os ++ more) a b same)
same_first command c t o left more ts os saids others same (inl one) (inr (last, inl empty)) over over_too =
    missing_same command c t o left more ts os (some_answer command saids t one) same last empty over_too
same_first command c t o left more ts os saids others same (inl one) (inr (last, inr (none, begins))) over over_too =
    absurd (short_never command c t o left more ts os others (some_answer command saids t one) same last none begins)
same_first command c t o left more ts os saids others same (inr (last, inl empty)) (inl two) over over_too =
    turned o t more left os ts (missing_same command c o t more left os ts (some_answer command others o two) (sym same) last empty over)
same_first command c t o left more ts os saids others same (inr (last, inr (none, begins))) (inl two) over over_too =
    absurd (short_never command c o t more left os ts saids (some_answer command others o two) (sym same) last none begins)
same_first command c t o left more ts os saids others same (inr (last, inl empty)) (inr (last_too, inl empty_too)) over over_too =
    (empty ∙ sym empty_too, sym (no_text t (concat ts ++ left) empty) ∙ same ∙ no_text o (concat os ++ more) empty_too)
same_first command c t o left more ts os saids others same (inr (last, inl empty)) (inr (last_too, inr (none_too, begins))) over over_too =
    cut_same command c t o left more ts os others same last empty over last_too none_too begins
same_first command c t o left more ts os saids others same (inr (last, inr (none, begins))) (inr (last_too, inl empty_too)) over over_too =
    turned o t more left os ts (cut_same command c o t more left os ts saids (sym same) last_too empty_too over_too last none begins)
same_first command c t o left more ts os saids others same (inr (last, inr (none, begins))) (inr (last_too, inr (none_too, begins_too))) over over_too =
    let here : concat ts ++ left ≡ [] = no_text (concat ts) left last ∙ none in
    let there : concat os ++ more ≡ [] = no_text (concat os) more last_too ∙ none_too in (
      sym (append-nil t) ∙ ap (λ (l : List ℕ). t ++ l) (sym here) ∙ same ∙ ap (λ (l : List ℕ). o ++ l) there ∙ append-nil o,
      here ∙ sym there,
    )

-- ---- all texts

one_cut : (commands : List Command) (output : List ℕ) (texts others : List (List ℕ)) (left more : List ℕ) → AllByRecursion IsCuttable commands → IsCut commands output (cut_of texts left)
    → IsCut commands output (cut_of others more) → (texts ≡ others) × (left ≡ more)
unfolding cut_of Same
one_cut [] output [] [] left more each one two = (refl, sym one.whole ∙ two.whole)
one_cut [] output (t ∷ ts) others left more each one two = absurd (let s = one.size in omega (arith, s))
one_cut [] output [] (o ∷ os) left more each one two = absurd (let s = two.size in omega (arith, s))
one_cut (command ∷ commands) output [] others left more each one two = absurd (let s = one.size in omega (arith, s))
one_cut (command ∷ commands) output (t ∷ ts) [] left more each one two = absurd (let s = two.size in omega (arith, s))
one_cut (command ∷ commands) output (t ∷ ts) (o ∷ os) left more each one two =
    let whole : t ++ (concat ts ++ left) ≡ o ++ (concat os ++ more) = sym (append_assoc t (concat ts) left) ∙ sym one.whole ∙ two.whole ∙ append_assoc o (concat os) more in
    let a = one.each 0 command refl in
    let b = two.each 0 command refl in
    let first = same_first command each.0 t o left more ts os a.saids b.saids whole a.text b.text (over_first command commands t ts left one.over) (over_first command commands o os more two.over) in
    let rest = one_cut commands (concat ts ++ left) ts os left more each.1 (later_cut command commands output t ts left one)
    (subst (λ (l : List ℕ). IsCut commands l (cut_of os more)) (sym first.1) (later_cut command commands output o os more two)) in
    let head : t ≡ o = first.0 in
    let tail : ts ≡ os = rest.0 in
    (cc, rest.1)

-- an output has one cut
pub output_cut : (commands : List Command) (output : List ℕ) (cut other : Cut) → AllByRecursion IsCuttable commands → IsCut commands output cut → IsCut commands output other → cut ≡ other
unfolding cut_of
output_cut commands output cut other each one two =
    let same = one_cut commands output cut.texts other.texts cut.left other.left each one two in
    ap (λ (texts : List (List ℕ)). cut_of texts cut.left) same.0 ∙ ap (λ (left : List ℕ). cut_of other.texts left) same.1
