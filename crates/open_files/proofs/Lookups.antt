-- Looking up in numbered tables.
use Rattle.std.specs.Prelude.{◌≡◌, ◌||◌, ℕ, ◌==◌, Bool, true, false, List, [], ◌∷◌, map, Option, Some, None, option_map, slice_get, refl}
use Rattle.std.specs.List.{list_any}
use Rattle.std.specs.Option.{option_and_then, option_flatten}
use Rattle.std.proofs.Common.{◌∙◌, sym, ap, subst, arith}
use Rattle.std.proofs.lemmas.Option.{slice_get-map}
use Rattle.posix_tables.specs.declared.open.Description.{Description}
use Rattle.posix_tables.specs.Open.{describes, key_of, opened}
use Rattle.open_files.specs.NumbersLaws.{SameKey, SameOpen, SameOpened, SameWhereOpen}
use Rattle.open_files.specs.Numbered.{described_as, numbered_as}

pub same_key : SameKey
unfolding key_of
same_key f t who handle = refl

flattened : (f : ℕ → ℕ) (o : Option (Option Description)) → option_flatten (option_map (option_map (described_as f)) o) ≡ option_map (described_as f) (option_flatten o)
flattened f None = refl
flattened f (Some None) = refl
flattened f (Some (Some d)) = refl

pub described-at : (f : ℕ → ℕ) (slots : List (Option Description)) (key : ℕ)
    → option_flatten (slice_get (map (option_map (described_as f)) slots) key) ≡ option_map (described_as f) (option_flatten (slice_get slots key))
described-at f slots key = ap option_flatten (slice_get-map (option_map (described_as f)) slots key) ∙ flattened f (slice_get slots key)

pub same_opened : SameOpened
unfolding opened
same_opened f t who handle = subst (λ o. option_and_then (λ key. option_flatten (slice_get (numbered_as f t).descriptions key)) o ≡ option_map (described_as f) (option_and_then (λ key. option_flatten (slice_get t.descriptions key)) (key_of t who handle)))
    (sym (same_key f t who handle)) (by (key_of t who handle)) where
      by : (o : Option ℕ) → option_and_then (λ key. option_flatten (slice_get (numbered_as f t).descriptions key)) o ≡ option_map (described_as f) (option_and_then (λ key. option_flatten (slice_get t.descriptions key)) o)
      by None = refl
      by (Some key) = described-at f t.descriptions key

-- ---- which nodes are open
equal-numbers : (m n : ℕ) → (m == n) ≡ true → m ≡ n
equal-numbers m n same = grind arith

numbers-equal : (m n : ℕ) → m ≡ n → (m == n) ≡ true
numbers-equal m n same = grind arith

alike : (f : ℕ → ℕ) (m n : ℕ) (b c : Bool) → (f m == f n) ≡ b → (m == n) ≡ c → (f m ≡ f n → m ≡ n) → b ≡ c
alike f m n true true first second told = refl
alike f m n false false first second told = refl
alike f m n true false first second told = sym (numbers-equal m n (told (equal-numbers (f m) (f n) first))) ∙ second
alike f m n false true first second told = sym first ∙ numbers-equal (f m) (f n) (ap f (equal-numbers m n second))

or-right : (b : Bool) → (b || true) ≡ true
or-right true = refl
or-right false = refl

pub any-alike : (f : ℕ → ℕ) (slots : List (Option Description)) (node : ℕ) → ((other : ℕ) → list_any (describes other) slots ≡ true → f other ≡ f node → other ≡ node)
    → list_any (describes (f node)) (map (option_map (described_as f)) slots) ≡ list_any (describes node) slots
any-alike f [] node told = refl
any-alike f (None ∷ slots) node told = any-alike f slots node told
any-alike f (Some d ∷ slots) node told =
    let rest = any-alike f slots node (λ other is same. told other (ap (λ b. (d.node == other) || b) is ∙ or-right (d.node == other)) same) in
    let head : (f d.node == f node) ≡ (d.node == node) =
    alike f d.node node (f d.node == f node) (d.node == node) refl refl (told d.node (ap (λ b. b || list_any (describes d.node) slots) (numbers-equal d.node d.node refl))) in
    ap (λ b. b || list_any (describes (f node)) (map (option_map (described_as f)) slots)) head ∙ ap (λ b. (d.node == node) || b) rest

pub same_open : SameOpen
same_open f t node told = any-alike f t.descriptions node told

pub same-slots : (f g : ℕ → ℕ) (slots : List (Option Description)) → ((node : ℕ) → list_any (describes node) slots ≡ true → f node ≡ g node)
    → map (option_map (described_as f)) slots ≡ map (option_map (described_as g)) slots
same-slots f g [] agree = refl
same-slots f g (None ∷ slots) agree = ap (λ rest. None ∷ rest) (same-slots f g slots agree)
same-slots f g (Some d ∷ slots) agree =
    let rest = same-slots f g slots (λ node is. agree node (ap (λ b. (d.node == node) || b) is ∙ or-right (d.node == node))) in
    let head = agree d.node (ap (λ b. b || list_any (describes d.node) slots) (numbers-equal d.node d.node refl)) in
    ap (λ n. Some (record d { node = n }) ∷ map (option_map (described_as f)) slots) head ∙ ap (λ rest. Some (described_as g d) ∷ rest) rest

pub same_where_open : SameWhereOpen
same_where_open f g t agree = ap (λ slots. record t { descriptions = slots }) (same-slots f g t.descriptions agree)
