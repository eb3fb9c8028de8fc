-- Room in a response: what is put there allocates nothing.
use Rattle.std.specs.Prelude.{ℕ, ◌-◌, ◌≤◌, vec_len, vec_capacity}
use Rattle.http_server.specs.declared.response.Response.{Response}

-- how many fields more it takes
abbrev pub field_room : Response → ℕ
field_room r = vec_capacity r.headers - vec_len r.headers

-- it takes so many fields more, and a body of so many bytes
pub record HasRoom (count size : ℕ) (r : Response) : Type 0 where
  pub fields : count ≤ field_room r
  pub body : size ≤ r.body.spare
