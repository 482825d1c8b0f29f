-- What is open: descriptions, descriptors and handles.
use Rattle.std.specs.Prelude.{ℕ, ◌==◌, ◌&&◌, nat_eq, Bool, true, false, List, [], ◌∷◌, ◌++◌, length, find, position, replicate, Option, Some, None, is_none, unwrap_or, option_and_then, if◌then◌else◌, slice_get, slice_set}
use Rattle.std.specs.Option.{option_or, option_flatten, option_map_or}
use Rattle.std.specs.List.{list_any}
use Rattle.std.specs.Cmp.Lexicographic.{pointwise}
use Rattle.posix_types.specs.declared.call.Who.{Who}
use Rattle.posix_types.specs.declared.handle.Handle.{Handle}
use Rattle.posix_tables.specs.declared.open.Description.{Description}
use Rattle.posix_tables.specs.declared.open.Binding.{Binding}
use Rattle.posix_tables.specs.Names.{without_place}

-- Descriptions stand by their numbers, which are never used again. Each descriptor is free or has the number of a description. Each handle of a caller is bound to a descriptor.
pub record Tables : Type 0 where
  pub descriptions : List (Option Description)
  pub descriptors : List (Option ℕ)
  pub handles : List Binding

-- how many descriptors there are, for all callers together
abbrev pub descriptor_count : ℕ
descriptor_count = 64

-- nothing is open
abbrev pub nothing_open : Tables
nothing_open = record { descriptions = []; descriptors = replicate descriptor_count None; handles = [] }

abbrev pub same_who : Who → Who → Bool
same_who Who.Setup Who.Setup = true
same_who Who.Setup (Who.Thread n) = false
same_who (Who.Thread m) Who.Setup = false
same_who (Who.Thread m) (Who.Thread n) = m == n

abbrev pub same_handle : Handle → Handle → Bool
same_handle a b = (a.len == b.len) && pointwise nat_eq a.bytes b.bytes

-- Looking up.

-- whether a binding is that of a caller's handle
abbrev pub is_binding : Who → Handle → Binding → Bool
is_binding who handle binding = same_who binding.who who && same_handle binding.handle handle

-- a handle's binding: among the caller's own, and then among those of the set-up
unfoldable pub binding_of : List Binding → Who → Handle → Option Binding
binding_of handles who handle = option_or (find (is_binding who handle) handles) (find (is_binding Who.Setup handle) handles)

-- the number of the description that a descriptor has
abbrev pub description_number : List (Option ℕ) → ℕ → Option ℕ
description_number descriptors descriptor = option_flatten (slice_get descriptors descriptor)

-- the number of the description that a handle stands for
unfoldable pub key_of : Tables → Who → Handle → Option ℕ
key_of t who handle = option_and_then (λ binding. description_number t.descriptors binding.descriptor) (binding_of t.handles who handle)

-- that description; None where the handle is unknown
unfoldable pub opened : Tables → Who → Handle → Option Description
opened t who handle = option_and_then (λ key. option_flatten (slice_get t.descriptions key)) (key_of t who handle)

abbrev pub may_read : Tables → Who → Handle → Bool
may_read t who handle = option_map_or (λ description. description.flags.read) (opened t who handle) false

abbrev pub may_write : Tables → Who → Handle → Bool
may_write t who handle = option_map_or (λ description. description.flags.write) (opened t who handle) false

-- the lowest free descriptor, if there is one
abbrev pub free_descriptor : Tables → Option ℕ
free_descriptor t = position (λ slot. is_none slot) t.descriptors

abbrev pub is_full : Tables → Bool
is_full t = is_none (free_descriptor t)

-- its number, where there is one
abbrev pub next_descriptor : Tables → ℕ
next_descriptor t = unwrap_or (free_descriptor t) 0

-- whether a description of this node is open
abbrev pub describes : ℕ → Option Description → Bool
describes node slot = option_map_or (λ description. description.node == node) slot false

abbrev pub is_open : Tables → ℕ → Bool
is_open t node = list_any (describes node) t.descriptions

-- Changes.

-- the handles with a binding; an older one of the caller's handle is dropped
unfoldable pub with_binding : List Binding → Binding → List Binding
with_binding handles binding = without_place handles (position (is_binding binding.who binding.handle) handles) ++ binding ∷ []

-- the description with a number has the lowest free descriptor too, bound to the caller's handle
unfoldable pub with_descriptor : Tables → Who → Handle → ℕ → Tables
with_descriptor t who handle key =
    let descriptor : ℕ = next_descriptor t in
    record t {
      descriptors = slice_set t.descriptors descriptor (Some key);
      handles = with_binding t.handles (record { who = who; handle = handle; descriptor = descriptor });
    }

-- a new description, with the lowest free descriptor, bound to the caller's handle
unfoldable pub with_opened : Tables → Who → Handle → Description → Tables
with_opened t who handle description =
    with_descriptor (record t { descriptions = t.descriptions ++ Some description ∷ [] }) who handle (length t.descriptions)

-- the description with a number has another offset
unfoldable pub with_offset : Tables → ℕ → ℕ → Tables
with_offset t key offset =
    record t { descriptions = changed (option_flatten (slice_get t.descriptions key)) } where
      changed : Option Description → List (Option Description)
      changed None = t.descriptions
      changed (Some description) = slice_set t.descriptions key (Some (record description { offset = offset }))

-- whether a descriptor has the description with this number
abbrev pub has_key : ℕ → Option ℕ → Bool
has_key key slot = option_map_or (λ k. k == key) slot false

-- the description with a number is gone, unless a descriptor has it
abbrev pub without_unused : Tables → ℕ → Tables
without_unused t key = if list_any (has_key key) t.descriptors then t else record t { descriptions = slice_set t.descriptions key None }

-- a binding is gone with its descriptor, and the description with its last descriptor
unfoldable pub without_binding : Tables → Binding → Tables
without_binding t binding =
    without_unused (record t {
      descriptors = slice_set t.descriptors binding.descriptor None;
      handles = without_place t.handles (position (is_binding binding.who binding.handle) t.handles);
    })
    (unwrap_or (description_number t.descriptors binding.descriptor) 0)

-- what is open after the close of a handle that stands for a description
unfoldable pub closed : Tables → Who → Handle → Tables
closed t who handle = closed_by (binding_of t.handles who handle) where
  closed_by : Option Binding → Tables
  closed_by None = t
  closed_by (Some binding) = without_binding t binding
