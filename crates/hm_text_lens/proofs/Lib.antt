mod Laws
mod Examples
