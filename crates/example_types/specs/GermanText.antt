-- The texts of the handler `German`: one line for each datum that a rule may find.
use Rattle.std.specs.Prelude.{ℕ, List, ◌++◌, codes}
use Rattle.garde.specs.Handlers.{Datum, length_lower, length_greater, range_lower, range_greater, card, pattern, contains, url, prefix, suffix, phone, ip, matches, not_ascii, not_alphanumeric, not_set, named, decimal, ip_kind_text}
use Rattle.garde.specs.Urls.{EmptyHost}

abbrev pub german_text : Datum → List ℕ
german_text (length_lower n) = codes "zu kurz: " ++ (decimal n ++ codes " oder mehr")
german_text (length_greater n) = codes "zu lang: " ++ (decimal n ++ codes " oder weniger")
german_text (range_lower s) = codes "zu klein: " ++ (s ++ codes " oder mehr")
german_text (range_greater s) = codes "zu viel: " ++ (s ++ codes " oder weniger")
german_text (card _) = codes "keine Kartennummer"
german_text (pattern s) = codes "anders als " ++ s
german_text (contains s) = codes "ohne " ++ s
german_text (url EmptyHost) = codes "keine URL: ohne Host"
german_text (url _) = codes "keine URL"
german_text (prefix s) = codes "nicht mit " ++ (s ++ codes " am Anfang")
german_text (suffix s) = codes "nicht mit " ++ (s ++ codes " am Ende")
german_text (phone _) = codes "keine Telefonnummer"
german_text (ip k) = codes "keine Adresse nach " ++ ip_kind_text k
german_text (matches s) = codes "anders als im Feld " ++ s
german_text not_ascii = codes "nicht nur ASCII"
german_text not_alphanumeric = codes "nicht nur Buchstaben und Zahlen"
german_text not_set = codes "fehlt"
german_text (named code english) = english
