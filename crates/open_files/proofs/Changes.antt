-- Changes of numbered tables.
use Rattle.std.specs.Prelude.{◌≡◌, ◌||◌, ◌⊎◌, ℕ, zero, suc, ◌==◌, Bool, true, false, List, [], ◌∷◌, Option, Some, None, option_map, slice_get, slice_set, position, unwrap_or, refl}
use Rattle.std.specs.List.{list_any}
use Rattle.std.specs.Option.{option_flatten}
use Rattle.std.proofs.Common.{◌∙◌, sym, ap, arith, inl, inr}
use Rattle.std.proofs.lemmas.List.{length-map, map-append, map-set}
use Rattle.std.proofs.lemmas.List.Folds.{list_any-append}
use Rattle.posix_tables.specs.declared.open.Binding.{Binding}
use Rattle.posix_tables.specs.declared.open.Description.{Description}
use Rattle.posix_tables.specs.Open.{binding_of, closed, describes, description_number, has_key, is_binding, is_open, next_descriptor, Tables, with_binding, with_descriptor, with_offset, with_opened, without_binding, without_unused}
use Rattle.posix_tables.specs.Names.{without_place}
use Rattle.open_files.specs.NumbersLaws.{ClosesAlike, DupsAlike, MovesAlike, NothingIsOpen, OpenOnceClosed, OpenOnceDuped, OpenOnceOpened, OpensAlike}
use Rattle.open_files.specs.Numbered.{described_as, numbered_as}
use Rattle.open_files.proofs.Lookups.{described-at}

pub nothing_is_open : NothingIsOpen
nothing_is_open f = refl

pub dups_alike : DupsAlike
unfolding with_descriptor
dups_alike f t who handle key = refl

pub opens_alike : OpensAlike
unfolding with_opened with_descriptor
opens_alike f t who handle d =
    let more = map-append (option_map (described_as f)) t.descriptions (Some d ∷ []) in
    let count = sym (length-map t.descriptions (option_map (described_as f))) in
    λ i. record {
      descriptions = more i;
      descriptors = slice_set t.descriptors (next_descriptor t) (Some (count i));
      handles = with_binding t.handles (record { who = who; handle = handle; descriptor = next_descriptor t });
    }

pub moves_alike : MovesAlike
unfolding with_offset
moves_alike f t key offset = by (option_flatten (slice_get t.descriptions key)) refl where
  by : (o : Option Description) → option_flatten (slice_get t.descriptions key) ≡ o → numbered_as f (with_offset t key offset) ≡ with_offset (numbered_as f t) key offset
  by None is = rw is (rw (described-at f t.descriptions key) (rw is refl))
  by (Some d) is =
      rw is (rw (described-at f t.descriptions key) (rw is
      (ap (λ slots. record t { descriptions = slots }) (map-set (option_map (described_as f)) t.descriptions key (Some (record d { offset = offset }))))))

unused_alike : (f : ℕ → ℕ) (t : Tables) (key : ℕ) → numbered_as f (without_unused t key) ≡ without_unused (numbered_as f t) key
unused_alike f t key = by (list_any (has_key key) t.descriptors) refl where
  by : (b : Bool) → list_any (has_key key) t.descriptors ≡ b → numbered_as f (without_unused t key) ≡ without_unused (numbered_as f t) key
  by true is = rw is refl
  by false is = rw is (ap (λ slots. record t { descriptions = slots }) (map-set (option_map (described_as f)) t.descriptions key None))

-- the tables without a binding and its descriptor
abbrev without : Tables → Binding → Tables
without t binding = record t {
  descriptors = slice_set t.descriptors binding.descriptor None;
  handles = without_place t.handles (position (is_binding binding.who binding.handle) t.handles);
}

abbrev key_in : Tables → Binding → ℕ
key_in t binding = unwrap_or (description_number t.descriptors binding.descriptor) 0

binding_alike : (f : ℕ → ℕ) (t : Tables) (binding : Binding) → numbered_as f (without_binding t binding) ≡ without_binding (numbered_as f t) binding
unfolding without_binding
binding_alike f t binding = unused_alike f (without t binding) (key_in t binding)

pub closes_alike : ClosesAlike
unfolding closed
closes_alike f t who handle = by (binding_of t.handles who handle) refl where
  by : (o : Option Binding) → binding_of t.handles who handle ≡ o → numbered_as f (closed t who handle) ≡ closed (numbered_as f t) who handle
  by None is = rw is refl
  by (Some binding) is = rw is (binding_alike f t binding)

-- ---- which nodes are open
either : (b : Bool) (m n : ℕ) → (b || ((m == n) || false)) ≡ true → (b ≡ true) ⊎ (n ≡ m)
either true m n is = inl refl
either false m n is = inr (grind arith)

pub open_once_opened : OpenOnceOpened
unfolding with_opened with_descriptor
open_once_opened t who handle d node is = either (list_any (describes node) t.descriptions) d.node node (sym (list_any-append (describes node) t.descriptions (Some d ∷ [])) ∙ is)

pub open_once_duped : OpenOnceDuped
unfolding with_descriptor
open_once_duped t who handle key node = refl

or-more : (b c d : Bool) → (c ≡ true → d ≡ true) → (b || c) ≡ true → (b || d) ≡ true
or-more true c d more is = refl
or-more false c d more is = more is

or-right : (b c : Bool) → c ≡ true → (b || c) ≡ true
or-right true c is = refl
or-right false c is = is

once_gone : (slots : List (Option Description)) (key node : ℕ) → list_any (describes node) (slice_set slots key None) ≡ true → list_any (describes node) slots ≡ true
once_gone [] key node is = is
once_gone (slot ∷ slots) zero node is = or-right (describes node slot) (list_any (describes node) slots) is
once_gone (slot ∷ slots) (suc key) node is = or-more (describes node slot) (list_any (describes node) (slice_set slots key None)) (list_any (describes node) slots) (once_gone slots key node) is

once_unused : (t : Tables) (key node : ℕ) → is_open (without_unused t key) node ≡ true → is_open t node ≡ true
once_unused t key node = by (list_any (has_key key) t.descriptors) refl where
  by : (b : Bool) → list_any (has_key key) t.descriptors ≡ b → is_open (without_unused t key) node ≡ true → is_open t node ≡ true
  by true is = rw is (λ so. so)
  by false is = rw is (once_gone t.descriptions key node)

once_unbound : (t : Tables) (binding : Binding) (node : ℕ) → is_open (without_binding t binding) node ≡ true → is_open t node ≡ true
unfolding without_binding
once_unbound t binding node is = once_unused (without t binding) (key_in t binding) node is

pub open_once_closed : OpenOnceClosed
unfolding closed
open_once_closed t who handle node = by (binding_of t.handles who handle) refl where
  by : (o : Option Binding) → binding_of t.handles who handle ≡ o → is_open (closed t who handle) node ≡ true → is_open t node ≡ true
  by None is = rw is (λ so. so)
  by (Some binding) is = rw is (once_unbound t binding node)
