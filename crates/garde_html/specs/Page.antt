-- Pages of markup and of texts.
use Rattle.std.specs.Prelude.{ℕ, Bool, true, false, cond, List, [], map, filter}
use Rattle.std.specs.List.{flat_map}
use Rattle.garde_html.specs.Html.{html_text}
use Rattle.garde_html.specs.declared.page.Piece.{Piece}
use Rattle.garde_html.specs.declared.page.Piece.TheVariants.{Markup, Text}

-- what a piece means: whether it is markup, and its bytes
abbrev pub Written : Type 0
Written = Bool × List ℕ

abbrev pub markup : List ℕ → Written
markup bytes = (true, bytes)

abbrev pub text : List ℕ → Written
text bytes = (false, bytes)

-- what a piece of the program means
abbrev pub piece_of : Piece → Written
piece_of (Markup bytes) = markup bytes.now
piece_of (Text bytes) = text bytes.now

-- the bytes of a piece: markup as it is, and a text within HTML
abbrev pub rendered_piece : Written → List ℕ
rendered_piece p = cond p.0 p.1 (html_text p.1)

-- the bytes of a page
abbrev pub rendered : List Written → List ℕ
rendered = flat_map rendered_piece

-- the markup of a page alone
abbrev pub markup_of : List Written → List Written
markup_of = filter (λ (p : Written). p.0)

-- a piece whose bytes are left out, if it is a text
abbrev pub blank_piece : Written → Written
blank_piece p = (p.0, cond p.0 p.1 [])

-- a page whose texts are left out: its markup, and where its texts stand
abbrev pub blank : List Written → List Written
blank = map blank_piece
