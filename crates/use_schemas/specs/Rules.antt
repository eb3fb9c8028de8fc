-- What a body is judged by.
use Rattle.std.specs.Prelude.{◌≡◌, ℕ, List, [], ◌∷◌, Some, IsUtf8, true}
use Rattle.json.specs.Json.{Json, document}
use Rattle.garde.specs.Visits.{Visits, ◌and◌}
use Rattle.garde_tape.specs.Input.{without_mark}
use Rattle.garde_schema.specs.Forms.{FormTexts}
use Rattle.garde_described.specs.Faults.{faults}
use Rattle.garde_described.specs.Links.{links}
use Rattle.garde_described.specs.declared.meta.TheConstants.{META_SCHEMA}
use Rattle.use_schemas.specs.declared.rules.Rules.{Rules}
use Rattle.use_schemas.specs.declared.rules.Rules.TheVariants.{OfSchemas, OfBodies}

-- the text of the rules: a schema, or the schema of schemas where none is given
abbrev pub rules_text : List ℕ → List ℕ
rules_text [] = META_SCHEMA.now
rules_text (b ∷ bs) = b ∷ bs

-- this is the JSON value of that text
abbrev pub IsRulesOf : List ℕ → Json → Type 0
IsRulesOf schema root = let text = without_mark (rules_text schema) in IsUtf8 text × (document text ≡ Some root)

-- what rules ask: those of schemas, that a value is a schema whose references lead to an end; and those of bodies, what the schema asks
abbrev pub asked_by : Rules → FormTexts → Json → Visits
asked_by (OfSchemas meta) texts j = faults texts meta.0.root meta.0.depth meta.0.root j and links texts j meta.0.depth true j
asked_by (OfBodies schema) texts j = faults texts schema.root schema.depth schema.root j

-- the rules are those of a schema whose text has this value; and without a schema, those of schemas
abbrev pub AreOf : List ℕ → Json → Rules → Type 0
AreOf [] root (OfSchemas meta) = (meta.0.root ≡ root) × (meta.0.depth ≡ 2193)
AreOf [] root (OfBodies schema) = ⊥
AreOf (b ∷ bs) root (OfSchemas meta) = ⊥
AreOf (b ∷ bs) root (OfBodies schema) = (schema.root ≡ root) × (schema.depth ≡ 2193)

-- the rules are those of the bytes of a schema
abbrev pub AreRules : List ℕ → Rules → Type 0
AreRules schema rules = (root : Json) × IsRulesOf schema root × AreOf schema root rules
