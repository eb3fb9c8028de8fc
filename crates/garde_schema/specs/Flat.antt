-- Tuples of values, each of which may be missing. A larger tuple is read as its first members and a tuple of the others.
use Rattle.std.specs.Prelude.{Option, option_map}
use Rattle.garde_schema.specs.Forms.{both}

abbrev pub all1 : {A : Type 0} → Option A → Option (record { 0 : A })
all1 a = option_map (λ v. record { 0 = v }) a

abbrev pub flat3 : {A B C : Type 0} → A × (B × C) → A × B × C
flat3 v = (v.0, v.1.0, v.1.1)

abbrev pub all3 : {A B C : Type 0} → Option A → Option B → Option C → Option (A × B × C)
all3 a b c = option_map flat3 (both a (both b c))

abbrev pub flat4 : {A B C D : Type 0} → A × B × (C × D) → A × B × C × D
flat4 v = (v.0, v.1, v.2.0, v.2.1)

abbrev pub all4 : {A B C D : Type 0} → Option A → Option B → Option C → Option D → Option (A × B × C × D)
all4 a b c d = option_map flat4 (all3 a b (both c d))

abbrev pub flat5 : {A B C D E : Type 0} → A × B × C × (D × E) → A × B × C × D × E
flat5 v = (v.0, v.1, v.2, v.3.0, v.3.1)

abbrev pub all5 : {A B C D E : Type 0} → Option A → Option B → Option C → Option D → Option E → Option (A × B × C × D × E)
all5 a b c d e = option_map flat5 (all4 a b c (both d e))

abbrev pub flat6 : {A B C D E F : Type 0} → A × B × C × (D × E × F) → A × B × C × D × E × F
flat6 v = (v.0, v.1, v.2, v.3.0, v.3.1, v.3.2)

abbrev pub all6 : {A B C D E F : Type 0} → Option A → Option B → Option C → Option D → Option E → Option F → Option (A × B × C × D × E × F)
all6 a b c d e f = option_map flat6 (all4 a b c (all3 d e f))
