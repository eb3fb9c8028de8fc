-- The value that begins with a node.
use Rattle.std.specs.Prelude.{◌≡◌}
use Rattle.json.specs.Json.{Json, null, boolean, number, string, array, object, Items, Members}
use Rattle.json.specs.declared.tape.Node.{Node}
use Rattle.json.specs.declared.tape.Node.TheVariants.{Object, EndObject, Array, EndArray, Key, String, Number, Bool, Null}

-- the value may begin with the node
abbrev pub IsOf : Json → Node → Type 0
IsOf j (Object end) = (ms : Members) × (j ≡ object ms)
IsOf j EndObject = ⊥
IsOf j (Array end) = (js : Items) × (j ≡ array js)
IsOf j EndArray = ⊥
IsOf j (Key s) = ⊥
IsOf j (String s) = j ≡ string s.now
IsOf j (Number s) = j ≡ number s.now
IsOf j (Bool b) = j ≡ boolean b
IsOf j Null = j ≡ null
