-- How deep the arrays and objects of a text nest.
use Rattle.std.specs.Prelude.{ℕ, suc, ◌-◌, max, List, [], ◌∷◌}
use Rattle.json.specs.Token.{Token}

-- how many arrays and objects are open behind a token, where so many are open before it
abbrev pub depth_behind : Token → ℕ → ℕ
depth_behind Token.begin_object depth = suc depth
depth_behind Token.end_object depth = depth - 1
depth_behind Token.begin_array depth = suc depth
depth_behind Token.end_array depth = depth - 1
depth_behind (Token.key s) depth = depth
depth_behind (Token.string s) depth = depth
depth_behind (Token.number s) depth = depth
depth_behind (Token.boolean b) depth = depth
depth_behind Token.null depth = depth
depth_behind Token.bad depth = depth

-- how many are open at once at most, where so many are open before the tokens
unfoldable pub most_nested : ℕ → List Token → ℕ
most_nested depth [] = depth
most_nested depth (t ∷ ts) = max depth (most_nested (depth_behind t depth) ts)
