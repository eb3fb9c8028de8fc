-- The lemmas by which the author of a type answers what the search leaves open.
pub use Rattle.garde.proofs.Visiting.{visited_none, visited_then, visited_stop, visited_under, visited_full, visited_found, visited_may_allocate, visited_when, visited_unless, visited_as, visited_numbered, visited_entry, visited_entries, is_walked}
pub use Rattle.garde.proofs.Walks.{WalkedUpTo, up_to_start, up_to_more}
pub use Rattle.garde.proofs.Calls.{visited_calls, visited_option_calls, visited_keyed_calls, visited_text_calls, visited_component_calls, visited_poppable, component_items_item}
pub use Rattle.garde.proofs.Nesting.{smaller_in, recursive_visits_is, child_visits_is, visited_level, visited_within}
pub use Rattle.garde.proofs.Known.{known_of, none_bears_of, known_alone, known_level, known_within}
pub use Rattle.garde.proofs.Agreeing.{as_stated, part, ◌also◌}
pub use Rattle.garde.proofs.FirstItems.{apart_of, unique_of}
