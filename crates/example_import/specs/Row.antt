-- What is asked of a row.
use Rattle.garde.specs.Visits.{Visits}
use Rattle.garde.specs.Fields.{◌and◌, alphanumeric, between, chars, field, if_some, is, is_in_memory, prefix, range, required, str, url, with_message}
use Rattle.example_import.specs.declared.row.Row.{Row}

abbrev pub row_visits : Row → Visits
row_visits v =
    field "code" (is (prefix "P" (str v.code)) and is (alphanumeric (str v.code)))
    and field "name" (is (chars (between 1 80) (str v.name)))
    and field "quantity" (is (with_message "not a number of pieces" (required v.quantity))
    and if_some (λ pieces. is (range (between 1 10000) pieces)) v.quantity)
    and field "price" (is (with_message "not a price in cents" (required v.price))
    and if_some (λ cents. is (range (between 1 50000) cents)) v.price)
    and field "page" (if_some (λ page. is_in_memory (url (str page))) v.page)
