-- The walks over the calls are the two ways in which POSIX mode keeps a part of what was done.
use Rattle.std.specs.Prelude.{◌≡◌, ◌⊎◌, ◌↔◌, ℕ, Bool, true, false, IsTrue, List, [], ◌∷◌, ◌++◌, length, map, refl}
use Rattle.std.specs.List.{list_any}
use Rattle.std.proofs.Common.{arith, ap, ◌∙◌, sym, subst, inl, inr, append_assoc}
use Rattle.std.proofs.lemmas.List.{append-nil}
use Rattle.posix_laws.specs.posix_types.declared.call.Mode.{Mode}
use Rattle.posix_laws.specs.posix_types.declared.item.Item.{Item}
use Rattle.posix_laws.specs.posix_types.declared.reply.Shape.{Shape}
use Rattle.posix_laws.specs.posix_types.declared.tree.TreeEntry.{TreeEntry}
use Rattle.posix_tables.specs.declared.nodes.Node.{Node}
use Rattle.posix_tables.specs.Nodes.{node_at}
use Rattle.posix_laws.specs.posix_spec.Run.{after_call, after_calls, Unfinished, begun, run}
use Rattle.posix_laws.specs.posix_spec.State.{State}
use Rattle.posix_laws.specs.posix_spec.Step.{step}
use Rattle.posix_laws.specs.posix_spec.Tree.{start, tree}
use Rattle.crash_spec.specs.Permitted.{Permitted}
use Rattle.crash_spec.specs.Posix.{acting, ByteRule, IsLeft, KeepsFront, NodeLeft, others, OrUnfinished, Overwritten, Posix, syncs, TreeLeft}
use Rattle.crash_judge.specs.declared.judge_bytes.effects.Effect.{Effect}
use Rattle.crash_judge.specs.Effects.{AreEffects, EffectRule}
use Rattle.crash_judge.specs.Judged.{IsPermitted}
use Rattle.crash_judge.specs.Fronts.{ActsOrNot, KeptFrom, KeptHere}
use Rattle.crash_judge.proofs.EffectLaws.{effect_rule, rule_effect}

-- ---- rules that allow the same leave the same

abbrev pub Allows : ByteRule → ByteRule → Type 0
Allows a b = (n i v x : ℕ) → a n i v x → b n i v x

node_allowed : (a b : ByteRule) → Allows a b → (n : ℕ) (x y : Node) → NodeLeft a n x y → NodeLeft b n x y
node_allowed a b allows n (Node.File file) (Node.File left) h = record { size = h.size; each = λ i below. allows n i _ _ (h.each i below) }
node_allowed a b allows n (Node.File file) Node.Gone h = h
node_allowed a b allows n (Node.File file) Node.Directory h = h
node_allowed a b allows n Node.Gone left h = h
node_allowed a b allows n Node.Directory left h = h

tree_allowed : (a b : ByteRule) → Allows a b → (s : State) (left : List TreeEntry) → TreeLeft a s left → TreeLeft b s left
tree_allowed a b allows s left h =
    let is : IsLeft a s h.0 = h.1 in
    (h.0, record { entries = is.entries; count = is.count; each = λ n. node_allowed a b allows n (node_at s.nodes n) (node_at h.0.nodes n) (is.each n) }, h.2)

pub TreeLeft-effects : (s u : State) (calls unfinished : List Unfinished) (effects extra : List Effect) (left : List TreeEntry) → AreEffects s calls effects → AreEffects u unfinished extra
    → TreeLeft (EffectRule effects extra) s left ↔ TreeLeft (OrUnfinished (Overwritten s calls) u unfinished) s left
TreeLeft-effects s u calls unfinished effects extra left are others = (
  tree_allowed (EffectRule effects extra) (OrUnfinished (Overwritten s calls) u unfinished) (effect_rule s u calls unfinished effects extra are others) s left,
  tree_allowed (OrUnfinished (Overwritten s calls) u unfinished) (EffectRule effects extra) (rule_effect s u calls unfinished effects extra are others) s left,
)

pub here_decided : (s : State) (later : List Item) (unfinished : List Unfinished) (left : List TreeEntry) (effects extra : List Effect) (b : Bool) → list_any syncs later ≡ false
    → AreEffects s (map begun later) effects → AreEffects (run s later) unfinished extra → (IsTrue b ↔ TreeLeft (EffectRule effects extra) s left) → IsTrue b ↔ KeptHere s later unfinished left
here_decided s later unfinished left effects extra b none are others is =
    let same = TreeLeft-effects s (run s later) (map begun later) unfinished effects extra left are others in
    (λ t. (none, same.0 (is.0 t)), λ (h : KeptHere s later unfinished left). is.1 (same.1 h.1))

-- ---- fronts

pub here_from : (s : State) (later : List Item) (unfinished : List Unfinished) (left : List TreeEntry) → KeptHere s later unfinished left → KeptFrom s later unfinished left
here_from s [] unfinished left here = here
here_from s (item ∷ later) unfinished left here = inl here

pub from_more : (s next : State) (later rest : List Item) (item : Item) (unfinished : List Unfinished) (left : List TreeEntry) (b : Bool) → later ≡ item ∷ rest
    → (KeptHere s later unfinished left → ⊥) → next ≡ (step s item.who item.call).state → (IsTrue b ↔ KeptFrom next rest unfinished left) → IsTrue b ↔ KeptFrom s later unfinished left
from_more s next later rest item unfinished left b is not_here next_is further =
    let From : List Item → Type 0 = λ (xs : List Item). IsTrue b ↔ KeptFrom s xs unfinished left in
    subst From (sym is) (onward, back)
  where
    onward : IsTrue b → KeptFrom s (item ∷ rest) unfinished left
    onward t = inr (subst (λ (m : State). KeptFrom m rest unfinished left) next_is (further.0 t))

    back : KeptFrom s (item ∷ rest) unfinished left → IsTrue b
    back (inl here) = absurd (not_here (subst (λ (xs : List Item). KeptHere s xs unfinished left) (sym is) here))
    back (inr behind) = further.1 (subst (λ (m : State). KeptFrom m rest unfinished left) (sym next_is) behind)

pub from_none : (s : State) (later : List Item) (unfinished : List Unfinished) (left : List TreeEntry) → later ≡ [] → KeptFrom s later unfinished left → KeptHere s later unfinished left
from_none s [] unfinished left none is = is
from_none s (item ∷ later) unfinished left none is = cc

pub whole_none : (history acting : State) (idle unfinished : List Unfinished) (left : List TreeEntry) (extra : List Effect) (b : Bool) → unfinished ≡ [] → AreEffects history idle extra
    → (IsTrue b ↔ TreeLeft (EffectRule [] extra) acting left) → IsTrue b ↔ ActsOrNot history acting idle unfinished left
whole_none history acting idle [] left extra b none are is =
    let same = TreeLeft-effects acting history [] idle [] extra left tt are in
    (λ t. same.0 (is.0 t), λ (h : ActsOrNot history acting idle [] left). is.1 (same.1 h))
whole_none history acting idle (c ∷ unfinished) left extra b none are is = cc

-- a front that is kept, with what comes later
abbrev pub FrontAt : State → List Item → List Item → List Unfinished → List TreeEntry → Type 0
FrontAt s kept later unfinished left =
    (list_any syncs later ≡ false) × TreeLeft (OrUnfinished (Overwritten (run s kept) (map begun later)) (run s (kept ++ later)) unfinished) (run s kept) left

kept_at : (kept : List Item) (s : State) (later : List Item) (unfinished : List Unfinished) (left : List TreeEntry) → FrontAt s kept later unfinished left → KeptFrom s (kept ++ later) unfinished left
kept_at [] s [] unfinished left is = is
kept_at [] s (item ∷ later) unfinished left is = inl is
kept_at (k ∷ kept) s later unfinished left is = inr (kept_at kept (step s k.who k.call).state later unfinished left is)

front_kept : (h : List Item) (s : State) (unfinished : List Unfinished) (left : List TreeEntry) → KeepsFront Overwritten s h unfinished left → KeptFrom s h unfinished left
front_kept h s unfinished left is =
    let Rule : List Item → Type 0 = λ (xs : List Item). TreeLeft (OrUnfinished (Overwritten (run s is.kept) (map begun is.later)) (run s xs) unfinished) (run s is.kept) left in
    subst (λ (xs : List Item). KeptFrom s xs unfinished left) (sym is.is)
    (kept_at is.kept s is.later unfinished left (is.fsyncs, subst Rule is.is is.tree_left))

kept_front : (h : List Item) (s : State) (unfinished : List Unfinished) (left : List TreeEntry) → KeptFrom s h unfinished left → KeepsFront Overwritten s h unfinished left
kept_front [] s unfinished left is = record { kept = []; later = []; is = refl; fsyncs = is.0; tree_left = is.1 }
kept_front (item ∷ h) s unfinished left (inl here) = record { kept = []; later = item ∷ h; is = refl; fsyncs = here.0; tree_left = here.1 }
kept_front (item ∷ h) s unfinished left (inr further) =
    let rest = kept_front h (step s item.who item.call).state unfinished left further in
    record { kept = item ∷ rest.kept; later = rest.later; is = ap (λ (xs : List Item). item ∷ xs) rest.is; fsyncs = rest.fsyncs; tree_left = rest.tree_left }

pub empty : (calls : List Unfinished) → length calls ≡ 0 → calls ≡ []
empty [] none = refl
empty (c ∷ calls) none = absurd (omega (arith, none))

-- ---- all is kept

-- by marks, some of the unfinished calls act, and the others join those that do not
abbrev pub MarkedFrom : State → State → List Unfinished → List Unfinished → List TreeEntry → List Bool → Type 0
MarkedFrom history at idle unfinished left marks =
    TreeLeft (OrUnfinished (Overwritten (after_calls at (acting marks unfinished)) []) history (idle ++ others marks unfinished)) (after_calls at (acting marks unfinished)) left

one_more : (history at : State) (idle cs : List Unfinished) (c : Unfinished) (more : List Unfinished) (left : List TreeEntry)
    → TreeLeft (OrUnfinished (Overwritten at []) history ((idle ++ c ∷ []) ++ more)) at left → TreeLeft (OrUnfinished (Overwritten at []) history (idle ++ (c ∷ more))) at left
one_more history at idle cs c more left is = subst (λ (xs : List Unfinished). TreeLeft (OrUnfinished (Overwritten at []) history xs) at left) (append_assoc idle (c ∷ []) more) is

one_less : (history at : State) (idle cs : List Unfinished) (c : Unfinished) (more : List Unfinished) (left : List TreeEntry)
    → TreeLeft (OrUnfinished (Overwritten at []) history (idle ++ (c ∷ more))) at left → TreeLeft (OrUnfinished (Overwritten at []) history ((idle ++ c ∷ []) ++ more)) at left
one_less history at idle cs c more left is = subst (λ (xs : List Unfinished). TreeLeft (OrUnfinished (Overwritten at []) history xs) at left) (sym (append_assoc idle (c ∷ []) more)) is

marked : (unfinished : List Unfinished) (history at : State) (idle : List Unfinished) (left : List TreeEntry) → ActsOrNot history at idle unfinished left
    → (marks : List Bool) × MarkedFrom history at idle unfinished left marks
marked [] history at idle left is = ([], subst (λ (xs : List Unfinished). TreeLeft (OrUnfinished (Overwritten at []) history xs) at left) (sym (append-nil idle)) is)
marked (c ∷ unfinished) history at idle left (inl acts) = let rest = marked unfinished history (after_call at c) idle left acts in (true ∷ rest.0, rest.1)
marked (c ∷ unfinished) history at idle left (inr idles) =
    let rest = marked unfinished history at (idle ++ c ∷ []) left idles in
    (false ∷ rest.0, one_more history (after_calls at (acting rest.0 unfinished)) idle [] c (others rest.0 unfinished) left rest.1)

by_marks : (unfinished : List Unfinished) (history at : State) (idle : List Unfinished) (left : List TreeEntry) (marks : List Bool) → MarkedFrom history at idle unfinished left marks
    → ActsOrNot history at idle unfinished left
by_marks [] history at idle left [] is = subst (λ (xs : List Unfinished). TreeLeft (OrUnfinished (Overwritten at []) history xs) at left) (append-nil idle) is
by_marks [] history at idle left (mark ∷ marks) is = subst (λ (xs : List Unfinished). TreeLeft (OrUnfinished (Overwritten at []) history xs) at left) (append-nil idle) is
by_marks (c ∷ unfinished) history at idle left [] is = inr (by_marks unfinished history at (idle ++ c ∷ []) left [] (none unfinished is))
  where
    none : (cs : List Unfinished) → TreeLeft (OrUnfinished (Overwritten at []) history (idle ++ (c ∷ cs))) at left → TreeLeft (OrUnfinished (Overwritten (after_calls at (acting [] cs)) []) history ((idle ++ c ∷ []) ++ others [] cs)) (after_calls at (acting [] cs)) left
    none cs is' = one_less history at idle [] c cs left is'
by_marks (c ∷ unfinished) history at idle left (true ∷ marks) is = inl (by_marks unfinished history (after_call at c) idle left marks is)
by_marks (c ∷ unfinished) history at idle left (false ∷ marks) is =
    inr (by_marks unfinished history at (idle ++ c ∷ []) left marks (one_less history (after_calls at (acting marks unfinished)) idle [] c (others marks unfinished) left is))

-- ---- together

pub Posix-kept : (s : State) (h : List Item) (unfinished : List Unfinished) (left : List TreeEntry) → KeptFrom s h unfinished left → Posix s h unfinished left
Posix-kept s h unfinished left is = inl (kept_front h s unfinished left is)

pub Posix-whole : (s : State) (h : List Item) (unfinished : List Unfinished) (left : List TreeEntry) → ActsOrNot (run s h) (run s h) [] unfinished left → Posix s h unfinished left
Posix-whole s h unfinished left is = let by = marked unfinished (run s h) (run s h) [] left is in inr (inl (record { marks = by.0; tree_left = by.1 }))

-- where neither walk finds it, the tree is that of the history
pub Posix-neither : (s : State) (h : List Item) (unfinished : List Unfinished) (left : List TreeEntry) → Posix s h unfinished left
    → KeptFrom s h unfinished left ⊎ ActsOrNot (run s h) (run s h) [] unfinished left ⊎ (left ≡ tree (run s h))
Posix-neither s h unfinished left is = elim is [
  | inl front ↦ inl (front_kept h s unfinished left front)
  | inr more ↦ elim more [
    | inl all ↦ inr (inl (by_marks unfinished (run s h) (run s h) [] left all.marks all.tree_left))
    | inr whole ↦ inr (inr whole)
  ]
]

pub posix_decided : (s done : State) (h : List Item) (unfinished : List Unfinished) (left : List TreeEntry) (b : Bool) → done ≡ run s h → (left ≡ tree done → ⊥) → (KeptFrom s h unfinished left → ⊥)
    → (IsTrue b ↔ ActsOrNot done done [] unfinished left) → IsTrue b ↔ Posix s h unfinished left
posix_decided s done h unfinished left b is no_tree no_front whole =
    let Whole : State → Type 0 = λ (m : State). ActsOrNot m m [] unfinished left in (
      λ t. Posix-whole s h unfinished left (subst Whole is (whole.0 t)),
      λ permitted. elim (Posix-neither s h unfinished left permitted) [
        | inl front ↦ absurd (no_front front)
        | inr more ↦ elim more [
          | inl all ↦ whole.1 (subst Whole (sym is) all)
          | inr same ↦ absurd (no_tree (same ∙ ap (λ (m : State). tree m) (sym is)))
        ]
      ],
    )

pub judged : (mode : Mode) (shape : Shape) (entries : List TreeEntry) (first : State) (h : List Item) (unfinished : List Unfinished) (left : List TreeEntry) (b : Bool) → mode ≡ Mode.Posix
    → first ≡ start entries shape mode → (IsTrue b ↔ Posix first h unfinished left) → IsTrue b ↔ IsPermitted mode shape entries h unfinished left
judged mode shape entries first h unfinished left b is first_is decides =
    let here : IsTrue b ↔ Posix (start entries shape mode) h unfinished left = subst (λ (s : State). IsTrue b ↔ Posix s h unfinished left) first_is decides in
    subst (λ (m : Mode). IsTrue b ↔ Permitted m (start entries shape mode) h unfinished left) (sym is) here
