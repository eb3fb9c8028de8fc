-- A compiled pattern finds what the grammar reads in its text.
use Rattle.std.proofs.Common.{◌≡◌, ◌≢◌, ℕ, ◌<◌, ◌≤◌, List, Option, Some, None, is_some, get_or, length, refl, inl, inr}
use Rattle.std.specs.Prelude.{IsSomeAnd, ⊤}
use Rattle.std.specs.Str.{chars}
use Rattle.regex.specs.Patterns.{Re, find_str, default_config, Reads, Refuses, Config}
use Rattle.regex_hir.specs.declared.hir.Hir.{Hir}
use Rattle.regex.specs.Strings.{regex_pattern, regex_source}
use Rattle.regex.specs.declared.string.regex.Regex.{Regex}
use Rattle.regex.proofs.OnLiterals.{is_match_as_written, same_refl}
use Rattle.regex_syntax.specs.declared.error.ErrorKind.{ErrorKind}
use Rattle.regex_syntax.specs.declared.error.ErrorKind.TheVariants.{OutOfMemory}
use Rattle.regex_syntax.specs.Grammar.{read, Names, group_count}
use Rattle.regex_syntax.specs.Captures.{SameCaptures}
use Rattle.regex_hir.specs.Meaning.{meaning}
use Rattle.regex_syntax.specs.Brackets.{Nested}
use Rattle.garde_engines.specs.Patterns.{reading, has_match, matches_source, IsPattern, IsNoPattern}
use Rattle.garde_engines.specs.Compiled.{IsCompiled}

weaken : {A : Type 0} (o : Option A) (P : A → Type 0) → IsSomeAnd o P → IsSomeAnd o (λ _. ⊤)
weaken None P h = h
weaken (Some x) P h = tt

reads_some : (config : Config) (pattern : List ℕ) (hir : Hir) (names : Names) → Reads config pattern hir names →
    IsSomeAnd (read config (chars pattern)) (λ _. ⊤)
unfolding Reads
reads_some config pattern hir names h = weaken _ _ h

-- what is read in a text by the grammar shows that it is a pattern
keep_depth : (o : Option (Nested Re × Names)) (limit : ℕ) (hir : Hir) (names : Names) →
    IsSomeAnd o (λ (re, found). (re.depth ≤ limit) × SameCaptures (meaning hir) re.value × (names ≡ found)
    × (group_count (meaning hir) ≤ length names)) →
    IsSomeAnd o (λ (re, _). re.depth ≤ limit)
keep_depth None limit hir names h = h
keep_depth (Some w) limit hir names h = h.0

pub reads_pattern : (source : List ℕ) (hir : Hir) (names : Names) → Reads default_config source hir names → IsPattern source
unfolding Reads
reads_pattern source hir names h = keep_depth (reading source) default_config.nest_limit hir names h

-- a text that the grammar rejects for another reason than memory is no pattern
pub refuses_pattern : (source : List ℕ) (kind : ErrorKind) → Refuses default_config source kind → kind ≢ OutOfMemory → IsNoPattern source
unfolding Refuses
refuses_pattern source kind (inl e) other = absurd (other e)
refuses_pattern source kind (inr (inl none)) other = inl none
refuses_pattern source kind (inr (inr (_, deep))) other = inr deep

module _ (r : Regex) (compiled : IsCompiled r) (text : List ℕ) (bytes : (k : ℕ) → get_or text k 0 < 256) where
  is_pattern : IsSomeAnd (reading (regex_source r)) (λ _. ⊤)
  is_pattern = reads_some _ _ _ _ (rw compiled.0 at compiled.1)

  found_as : (o : Option (Nested Re × Names)) → reading (regex_source r) ≡ o →
      IsSomeAnd o (λ _. ⊤) → is_some (find_str (regex_pattern r) text 0) ≡ has_match o text
  found_as None e h = absurd h
  found_as (Some (whole, names)) e h =
      is_match_as_written r (regex_source r) whole.value refl compiled.0 compiled.1 (rw e (same_refl whole.value)) text bytes 0

  -- a search finds a match exactly where the pattern of its text has one
  pub finds_source : is_some (find_str (regex_pattern r) text 0) ≡ matches_source (regex_source r) text
  finds_source = found_as _ refl is_pattern
