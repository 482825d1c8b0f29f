-- The stronger rule for bytes implies the rule, and so the stronger relation the relation.
use Rattle.std.specs.Prelude.{◌≡◌, ℕ, Bool, true, false, ◌||◌, cond, Option, Some, None, List, [], ◌∷◌, map, refl}
use Rattle.std.proofs.Common.{inl, inr, sym, ◌∙◌, subst}
use Rattle.posix_laws.specs.posix_types.declared.call.Mode.{Mode}
use Rattle.posix_laws.specs.posix_types.declared.item.Item.{Item}
use Rattle.posix_laws.specs.posix_types.declared.tree.TreeEntry.{TreeEntry}
use Rattle.posix_laws.specs.posix_tables.declared.nodes.Node.{Node}
use Rattle.posix_laws.specs.posix_tables.Nodes.{node_at}
use Rattle.posix_laws.specs.posix_spec.Run.{after_call, after_calls, Unfinished, begun, run}
use Rattle.posix_laws.specs.posix_spec.State.{State}
use Rattle.crash_spec.specs.Permitted.{Permitted, StronglyPermitted}
use Rattle.crash_spec.specs.Posix.{acting, ByteRule, IsLastOrAny, IsLeft, LastBeforeCut, NodeLeft, others, OrUnfinished, Overwritten, Posix, StrongPosix, TreeLeft}
use Rattle.crash_spec.specs.Values.{is_shortened, IsOneOf, last_of, shortens, value_before_cut, value_put, values_put, with_value}

-- the last of a value and others is one of them
pub last-IsOneOf : (values : List ℕ) (v : ℕ) → IsOneOf (v ∷ values) (last_of v values)
last-IsOneOf [] v = inl refl
last-IsOneOf (w ∷ values) v = inr (last-IsOneOf values w)

-- one of a value and others, where another value may come between
among_more : (o : Option ℕ) (values : List ℕ) (v x : ℕ) → IsOneOf (last_of v (with_value o []) ∷ values) x → IsOneOf (v ∷ with_value o values) x
among_more None values v x h = h
among_more (Some w) values v x h = inr h

last_more : (o : Option ℕ) (values : List ℕ) (v : ℕ) → last_of (last_of v (with_value o [])) values ≡ last_of v (with_value o values)
last_more None values v = refl
last_more (Some w) values v = refl

any_more : (b : Bool) (o : Option ℕ) (values : List ℕ) (v x : ℕ) → IsLastOrAny b (last_of v (with_value o [])) values x → IsLastOrAny b v (with_value o values) x
any_more true o values v x h = among_more o values v x h
any_more false o values v x h = h ∙ last_more o values v

-- what was put before the file was first shortened is one of the values; where it was not shortened it is the last
before_cut : (s : State) (later : List Unfinished) (n i v : ℕ) → IsLastOrAny (is_shortened s later n i) v (values_put s later n i) (value_before_cut s later n i v)
unfolding is_shortened values_put value_before_cut
before_cut s [] n i v = refl
before_cut s (c ∷ calls) n i v = by (shortens s c n i) (before_cut (after_call s c) calls n i (last_of v (with_value (value_put s c n i) [])))
  where
    rest : ℕ
    rest = value_before_cut (after_call s c) calls n i (last_of v (with_value (value_put s c n i) []))

    by : (b : Bool) → IsLastOrAny (is_shortened (after_call s c) calls n i) (last_of v (with_value (value_put s c n i) [])) (values_put (after_call s c) calls n i) rest
        → IsLastOrAny (b || is_shortened (after_call s c) calls n i) v (with_value (value_put s c n i) (values_put (after_call s c) calls n i)) (cond b v rest)
    by true further = inl refl
    by false further = any_more (is_shortened (after_call s c) calls n i) (value_put s c n i) (values_put (after_call s c) calls n i) v rest further

-- a rule implies another
abbrev pub Implies : ByteRule → ByteRule → Type 0
Implies a b = (n i v x : ℕ) → a n i v x → b n i v x

pub Overwritten-LastBeforeCut : (s : State) (later : List Unfinished) → Implies (LastBeforeCut s later) (Overwritten s later)
Overwritten-LastBeforeCut s later n i v x h =
    subst (λ y. IsLastOrAny (is_shortened s later n i) v (values_put s later n i) y) (sym h) (before_cut s later n i v)

or_weaker : (a b : ByteRule) (s : State) (unfinished : List Unfinished) → Implies a b → Implies (OrUnfinished a s unfinished) (OrUnfinished b s unfinished)
or_weaker a b s unfinished implies n i v x h = elim h [ inl by_rule ↦ inl (implies n i v x by_rule) | inr by_others ↦ inr by_others ]

-- what is left by a rule is left by a weaker one
node_weaker : (a b : ByteRule) → Implies a b → (n : ℕ) (x y : Node) → NodeLeft a n x y → NodeLeft b n x y
node_weaker a b implies n (Node.File file) (Node.File left) h = record { size = h.size; each = λ i below. implies n i _ _ (h.each i below) }
node_weaker a b implies n (Node.File file) Node.Gone h = h
node_weaker a b implies n (Node.File file) Node.Directory h = h
node_weaker a b implies n Node.Gone left h = h
node_weaker a b implies n Node.Directory left h = h

left_weaker : (a b : ByteRule) → Implies a b → (s m : State) → IsLeft a s m → IsLeft b s m
left_weaker a b implies s m h =
    record { entries = h.entries; count = h.count; each = λ n. node_weaker a b implies n (node_at s.nodes n) (node_at m.nodes n) (h.each n) }

tree_weaker : (a b : ByteRule) → Implies a b → (s : State) (left : List TreeEntry) → TreeLeft a s left → TreeLeft b s left
tree_weaker a b implies s left h = (h.0, left_weaker a b implies s h.0 h.1, h.2)

Posix-StrongPosix : (s : State) (history : List Item) (unfinished : List Unfinished) (left : List TreeEntry) → StrongPosix s history unfinished left → Posix s history unfinished left
Posix-StrongPosix s history unfinished left h = elim h [
  | inl front ↦
      let a = LastBeforeCut (run s front.kept) (map begun front.later) in
      let b = Overwritten (run s front.kept) (map begun front.later) in
      let weaker = or_weaker a b (run s history) unfinished (Overwritten-LastBeforeCut (run s front.kept) (map begun front.later)) in
      inl (record {
        kept = front.kept;
        later = front.later;
        is = front.is;
        fsyncs = front.fsyncs;
        tree_left = tree_weaker (OrUnfinished a (run s history) unfinished) (OrUnfinished b (run s history) unfinished) weaker (run s front.kept) left front.tree_left;
      })
  | inr more ↦ elim more [
    | inl all ↦
        let at = after_calls (run s history) (acting all.marks unfinished) in
        let rest = others all.marks unfinished in
        let weaker = or_weaker (LastBeforeCut at []) (Overwritten at []) (run s history) rest (Overwritten-LastBeforeCut at []) in
        inr (inl (record {
          marks = all.marks;
          tree_left = tree_weaker (OrUnfinished (LastBeforeCut at []) (run s history) rest) (OrUnfinished (Overwritten at []) (run s history) rest) weaker at left all.tree_left;
        }))
    | inr whole ↦ inr (inr whole)
  ]
]

-- and so what is strongly permitted in a mode is permitted in it
pub Permitted-Strongly : (mode : Mode) (s : State) (history : List Item) (unfinished : List Unfinished) (left : List TreeEntry) → StronglyPermitted mode s history unfinished left → Permitted mode s history unfinished left
Permitted-Strongly Mode.Strict s history unfinished left h = h
Permitted-Strongly Mode.Sync s history unfinished left h = h
Permitted-Strongly Mode.Posix s history unfinished left h = Posix-StrongPosix s history unfinished left h
